use Rattle.std.proofs.Common.{ℕ, refl, subst, below_more, arith}
use Rattle.std.proofs.lemmas.Bool.{false≢true}
use Rattle.std.proofs.lemmas.List.{get_or_default}
use Rattle.stop_tasks.specs.StopPaths.{KeepsWayOut}
use Rattle.stop_tasks.proofs.paths.is_reachable.Goals as goal

pub returns-then-not-keeps_way_out : goal.returns-then-not-keeps_way_out
returns-then-not-keeps_way_out c = (
  λ is. absurd (false≢true is),
  λ all. rw c.if-not-keeps_way_out.true at (c.keeps_way_out.ensures.1 (all c.loop-pair.pair-index (0, 0) c.loop-pair-test.true)),
)

pub loop-pair-preserved : goal.loop-pair-preserved
loop-pair-preserved c =
    below_more _ _ c.loop-pair.invariant
    (λ (d : ℕ × ℕ).
    subst (KeepsWayOut c.args.last.now c.args.prefix.now) (get_or_default c.args.behind.now c.loop-pair.pair-index (0, 0) d c.loop-pair-test.true)
    (c.keeps_way_out.ensures.0 c.if-not-keeps_way_out.false))

pub returns : goal.returns
returns c = (λ is k d within. c.loop-pair.invariant k (omega arith) d, λ all. refl)
