use Rattle.std.proofs.Common.{map, length}
use Rattle.text_lines.proofs.PartSteps.{AreRead}
use Rattle.tree_certificate.specs.Listed.{listed_prices}
use Rattle.tree_certificate.specs.TreeText.{price_line, IsSpelledPriceList}
use Rattle.tree_certificate.proofs.reader.next_price_lists.Given as goal

abbrev pub invariant-loop-line : goal.invariant-loop-line
invariant-loop-line l = AreRead (price_line l.names.positions.now) (IsSpelledPriceList l.names.positions.now) l.initial.lines l.lines (map listed_prices l.lists.items)

abbrev pub decreases-loop-line : goal.decreases-loop-line
decreases-loop-line l = length l.lines.rest.now
