use Rattle.std.proofs.Common.{ap, arith}
use Rattle.std.proofs.lemmas.List.Elements.{at_from_Contains}
use Rattle.hold_partial.specs.Arrangement.{Ranked, ranked_of}
use Rattle.hold_partial.proofs.position_table.rank_of.Goals as goal

pub unreachable-requires : goal.unreachable-requires
unreachable-requires c =
    let entry : Ranked = ranked_of c.args.hold.now c.args.number in
    let at = at_from_Contains c.args.ranks.now entry (c.requires.arranged.every c.args.number c.requires.known) in
    absurd (c.loop-rank.invariant at.0 (omega (arith, at.1)) entry (ap (λ (e : Ranked). e.1) (at.2 entry)))
