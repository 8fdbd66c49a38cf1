use Rattle.std.proofs.Common.{map, length}
use Rattle.tree_certificate.specs.Listed.{listed_sibling}
use Rattle.tree_certificate.proofs.SectionSteps.{AreSiblingsSoFar}
use Rattle.tree_certificate.proofs.reader.next_siblings.Given as goal

abbrev pub invariant-loop-siblings : goal.invariant-loop-siblings
invariant-loop-siblings l = AreSiblingsSoFar l.names.positions.now l.initial.lines.rest.now l.lines.rest.now l.initial.lines.number l.lines.number (map listed_sibling l.siblings.items)

abbrev pub decreases-loop-siblings : goal.decreases-loop-siblings
decreases-loop-siblings l = length l.lines.rest.now
