use Rattle.std.proofs.Common.{◌≤◌, ℕ, List, length, sym, ◌∙◌, arith}
use Rattle.std.proofs.lemmas.Bool.{false≢true}
use Rattle.hold_limits.specs.Problem.{Problem}
use Rattle.stop_partial.specs.Next.{AreNextMoments}
use Rattle.stop_partial.proofs.NextLemmas.{below-all, below-with, below-without, nowhere}
use Rattle.stop_partial.proofs.sector.next_positions.Goals as goal
use Rattle.stop_partial.proofs.sector.next_positions.Goals.{then-may_follow, else-may_follow}

pub loop-number-preserved : goal.loop-number-preserved
loop-number-preserved c =
    let t : Problem = c.args.partial.now.task in
    let prefix : List ℕ = c.args.partial.now.prefix in
    let number : ℕ = c.loop-number.number in
    let same = c.may_follow.ensures.same ∙ c.loop-number.invariant.same in
    let sound = rw c.loop-number.invariant.same at c.may_follow.ensures.sound in
    record {
      same = same;
      below = elim c.if-may_follow.branch [
        | then-may_follow w ↦
            let moments : AreNextMoments t prefix w.moments_with.result = rw same at w.moments_with.ensures in
            rw (w.fitting-is, w.moments-is) (below-with t prefix number c.loop-number.fitting w.with-fitting.result c.loop-number.moments w.moments_with.result c.loop-number.invariant.below
            (sound.0 w.if-may_follow.true) w.with-fitting.ensures moments)
        | else-may_follow w ↦
            rw (w.fitting-is, w.moments-is) (below-without t prefix number c.loop-number.fitting c.loop-number.moments c.loop-number.invariant.below
            (λ one. false≢true (sym w.if-may_follow.false ∙ sound.1 one)))
      ];
    }

pub returns-in-Some-clause-next : goal.returns-in-Some-clause-next
returns-in-Some-clause-next c =
    let t : Problem = c.args.partial.now.task in
    let prefix : List ℕ = c.args.partial.now.prefix in
    let past : length t.hold.positions ≤ c.loop-number.number = omega (arith, c.loop-number-test.false, rw (c.hold.ensures.value, c.task.ensures.value) at c.position_count-number-end.ensures.value) in
    record {
      fits = below-all t prefix c.loop-number.number c.loop-number.fitting c.loop-number.moments c.loop-number.invariant.below past;
      holds = rw c.loop-number.invariant.same at c.others_around.ensures.holds;
      bounded = c.others_around.ensures.bounded;
    }

pub returns-in-None-clause-next : goal.returns-in-None-clause-next
returns-in-None-clause-next c =
    let t : Problem = c.args.partial.now.task in
    let prefix : List ℕ = c.args.partial.now.prefix in
    let past : length t.hold.positions ≤ c.loop-number.number = omega (arith, c.loop-number-test.false, rw (c.hold.ensures.value, c.task.ensures.value) at c.position_count-number-end.ensures.value) in
    let not = rw c.in-None.is at c.loop-number.invariant.below.ends in
    nowhere t prefix c.none.result c.none.ensures.none c.none.ensures.bounded
    (λ q sound. not q ((below-all t prefix c.loop-number.number c.loop-number.fitting c.loop-number.moments c.loop-number.invariant.below past q).1 sound))
