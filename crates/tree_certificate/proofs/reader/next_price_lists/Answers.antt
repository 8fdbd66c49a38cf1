use Rattle.tree_certificate.specs.Listed.{listed_prices}
use Rattle.tree_certificate.specs.TreeText.{price_line, IsSpelledPriceList}
use Rattle.text_lines.proofs.PartSteps.{one_more_value, ends_section, none_at_line, none_at_end}
use Rattle.tree_certificate.proofs.reader.next_price_lists.Goals as goal
use Rattle.std.proofs.Common.{map}

pub returns-in_default-2 : goal.returns-in_default-2
returns-in_default-2 c =
    let ps = c.args.names.now.positions.now in
    let here = c.loop-line.lines in
    let none = rw c.in_default-2.is at c.in_ok-list.ensures.none in
    ends_section (price_line ps) (IsSpelledPriceList ps) c.args.lines.now here (map listed_prices c.loop-line.lists.items) c.loop-line.invariant
    (none_at_line (price_line ps) (IsSpelledPriceList ps) here c.in-Some.line.now c.in-Some.after.rest.now c.in-Some.ensures.found.0 c.in-Some.ensures.found.1 none)

pub loop-line-preserved : goal.loop-line-preserved
loop-line-preserved c =
    let ps = c.args.names.now.positions.now in
    let read = rw c.in-Some-2.is at c.in_ok-list.ensures.found in
    one_more_value (price_line ps) (IsSpelledPriceList ps) listed_prices c.args.lines.now c.loop-line.lines c.in-Some.after c.in-Some.line.now c.loop-line.lists.items c.push.new.self.items c.in-Some-2.list
    c.loop-line.invariant read.0 read.1 c.in-Some.ensures.found.0 c.in-Some.ensures.counted c.in_ok-push.ensures.items

pub returns : goal.returns
returns c =
    let ps = c.args.names.now.positions.now in
    ends_section (price_line ps) (IsSpelledPriceList ps) c.args.lines.now c.loop-line.lines (map listed_prices c.loop-line.lists.items) c.loop-line.invariant
    (none_at_end (price_line ps) (IsSpelledPriceList ps) c.loop-line.lines c.in_default.ensures.none)
