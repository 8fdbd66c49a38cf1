use Rattle.std.proofs.Common.{ℕ, take}
use Rattle.std.specs.Prelude.{◌↔◌, IsTrue}
use Rattle.position_set.specs.Sets.{has}
use Rattle.hold_choices.specs.Narrowed.{ticks_between}
use Rattle.finder_remainders.specs.Remainders.{IsAllowed, IsMetBy}
use Rattle.finder_remainders.proofs.classes.forbidden.Given as goal

abbrev pub invariant-loop-spot : goal.invariant-loop-spot
invariant-loop-spot l = (q : ℕ) → IsTrue (has l.positions q) ↔ IsMetBy (λ index. IsAllowed (ticks_between l.ticks.low l.ticks.high) l.divisor index → ⊥) (take l.spot-index l.spots) q
