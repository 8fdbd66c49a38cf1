use Rattle.trim.proofs.LawLemmas.{index-once, task-once, unrefused, list-once, listed-is, flyable-is}
use Rattle.trim.specs.Balance.{landing_fuel}
use Rattle.trim.proofs.laws.flight_laws.Goals as goal

pub returns : goal.returns
returns c = record {
  take_off = λ a f path x y one other. index-once f.fuel.take_off.0 a f path x y one other;
  landing = λ a f path x y one other. index-once (landing_fuel f) a f path x y one other;
  one_task = task-once;
  unrefused = unrefused;
  one_list = list-once;
  listed = listed-is;
  admissible = flyable-is;
}
