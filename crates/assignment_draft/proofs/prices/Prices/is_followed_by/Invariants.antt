use Rattle.std.proofs.Common.{◌≡◌, ℕ, suc, ◌<◌, get_or}
use Rattle.assignment.specs.Costs.{MayStand}
use Rattle.assignment.specs.Tables.{nobody}
use Rattle.assignment_draft.proofs.prices.Prices.is_followed_by.Given as goal

abbrev pub invariant-loop-number : goal.invariant-loop-number
invariant-loop-number l = record {
  same_mass : (number : ℕ) → number < l.number → (get_or l.candidates number nobody).mass ≡ (get_or l.own (suc number) nobody).mass;
  narrower : (number position : ℕ) → number < l.number → MayStand (get_or l.candidates number nobody) position → MayStand (get_or l.own (suc number) nobody) position;
}
