use Rattle.hold_reach.proofs.CommonNumber.{common-from, common-bounds}
use Rattle.hold_reach.proofs.span.Span.meets.Goals as goal

pub returns-then-begins_within : goal.returns-then-begins_within
returns-then-begins_within c =
    let first = c.begins_within.ensures.0 c.if-begins_within.true in
    let second = c.begins_within-then-begins_within.ensures in (
      λ met. let both = second.0 met in common-from _ _ _ _ first.0 first.1 both.0 both.1,
      λ common. let parts = common-bounds _ _ _ _ common in second.1 (parts.2, parts.3),
    )
