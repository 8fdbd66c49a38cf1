use Rattle.stop_trim.proofs.LawLemmas.{load-once, unrefused, sector-once, kind-once, load-fault-once}
use Rattle.stop_trim.proofs.laws.stop_trim_laws.Goals as goal

pub returns : goal.returns
returns c = record {
  one_load = load-once;
  unrefused = unrefused;
  one_sector = λ a sectors _ _ m n x y. sector-once a sectors m n x y;
  one_kind = kind-once;
  one_fault = load-fault-once;
}
