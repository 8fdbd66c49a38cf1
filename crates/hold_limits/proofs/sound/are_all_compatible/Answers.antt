use Rattle.std.proofs.Common.{refl, ◌≢◌}
use Rattle.std.proofs.lemmas.Bool.{false≢true}
use Rattle.hold_limits.specs.Placement.{Exclude}
use Rattle.base_words.proofs.PairLemmas.{pairs-more, pairs-all, pairs-whole}
use Rattle.hold_limits.proofs.sound.are_all_compatible.Goals as goal

pub returns-then-not-is_compatible_with_all : goal.returns-then-not-is_compatible_with_all
returns-then-not-is_compatible_with_all c =
    let prefix = c.args.prefix.now in (
      λ is. absurd (false≢true is),
      λ pairs. rw c.if-not-is_compatible_with_all.true at (c.is_compatible_with_all.ensures.1 (pairs-all (λ a b. (a ≢ b) × (Exclude c.args.hold.now a b → ⊥)) prefix c.loop-rank.rank 0 c.loop-rank-test.true pairs)),
    )

pub loop-rank-preserved : goal.loop-rank-preserved
loop-rank-preserved c =
    pairs-more (λ a b. (a ≢ b) × (Exclude c.args.hold.now a b → ⊥)) c.args.prefix.now c.loop-rank.rank 0 c.loop-rank-test.true c.loop-rank.invariant (c.is_compatible_with_all.ensures.0 c.if-not-is_compatible_with_all.false)

pub returns : goal.returns
returns c = (λ is. pairs-whole (λ a b. (a ≢ b) × (Exclude c.args.hold.now a b → ⊥)) c.args.prefix.now c.loop-rank.rank c.loop-rank-test.false c.loop-rank.invariant, λ pairs. refl)
