use Rattle.std.proofs.Common.{sym, ◌∙◌}
use Rattle.hold_partial.proofs.SideLemmas.{left-least}
use Rattle.hold_partial.proofs.sides.Sides.leftmost.Goals as goal

pub returns-in-Some : goal.returns-in-Some
returns-in-Some c =
    let found = c.in-Some.ensures in
    let least = left-least c.args.self.now c.args.places c.in-Some.rank c.requires (sym (c.intersection.ensures c.in-Some.rank) ∙ found.1) in
    (found.0, least.0, least.1)
