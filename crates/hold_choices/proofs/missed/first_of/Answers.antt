use Rattle.std.proofs.Common.{ap, sym}
use Rattle.position_set.proofs.MemberLemmas.{members-none}
use Rattle.price_trees.specs.Trees.{first}
use Rattle.hold_choices.proofs.NumberLemmas.{members-least}
use Rattle.hold_choices.proofs.missed.first_of.Goals as goal

pub returns-in-Some : goal.returns-in-Some
returns-in-Some c = let least = c.in-Some.ensures in sym (members-least c.args.set c.in-Some.number least.0 least.1 least.2)

pub returns-in-None : goal.returns-in-None
returns-in-None c = sym (ap first (members-none c.args.set c.in-None.ensures))
