use Rattle.std.proofs.Common.{rules, arith, ap, ◌∙◌, Some}
use Rattle.std.specs.Int.{w128}
use Rattle.std.proofs.lemmas.Int.{to_z-of_z}
use Rattle.aircraft_text.proofs.CentreLemmas.{centre_is}
use Rattle.aircraft_text.proofs.centre.centre_at.Goals as goal

pub returns-clause-value : goal.returns-clause-value
returns-clause-value c =
    ap Some (to_z-of_z w128 c.mac_hundredths.result (search rules))
    ∙ centre_is c.args.chord.now c.args.corner.now c.mac_hundredths.result c.requires (search (rules, arith)) c.mac_hundredths.ensures
