use Rattle.std.proofs.Common.{◌≡◌, ◌≢◌, ℕ, zero, suc, ◌-◌, refl, ap, ◌∙◌, arith}
use Rattle.hold_limits.specs.Problem.{Problem}
use Rattle.price_trees.specs.Narrowing.{ticks_within}
use Rattle.tree_checker.specs.GoodTrees.{nearer_ticks}
use Rattle.tree_checker.proofs.claim.nearer_span.Goals as goal

one-less : (t : Problem) (d : ℕ) → d ≢ 0 → ticks_within t (d - 1) ≡ nearer_ticks t d
one-less t zero some = absurd (some refl)
one-less t (suc d) some = ap (ticks_within t) (omega arith)

pub returns-else-distance-eq0 : goal.returns-else-distance-eq0
returns-else-distance-eq0 c = c.span_within.ensures ∙ one-less c.args.task.now c.args.distance c.if-distance-eq0.false
