use Rattle.std.proofs.Common.{map}
use Rattle.tree_certificate.specs.Listed.{listed_sibling}
use Rattle.tree_certificate.proofs.SectionSteps.{no_siblings, one_more_kept, are_siblings, sibling_shorter}
use Rattle.tree_certificate.proofs.reader.next_siblings.Goals as goal

pub loop-siblings-init : goal.loop-siblings-init
loop-siblings-init c =
    rw c.new-siblings.ensures.items (no_siblings c.args.names.now.positions.now c.args.lines.now.rest.now c.args.lines.now.number)

pub loop-siblings-preserved : goal.loop-siblings-preserved
loop-siblings-preserved c =
    let start = c.args.lines.now in
    let here = c.loop-siblings.lines in
    let after = c.next_sibling.new.lines in
    let one = rw c.in-Some.is at c.in_ok-sibling.ensures.found in
    one_more_kept c.args.names.now.positions.now start.rest.now here.rest.now after.rest.now start.number here.number after.number c.loop-siblings.siblings.items c.push.new.self.items c.in-Some.sibling c.loop-siblings.invariant one c.in_ok-push.ensures.items

pub loop-siblings-smaller : goal.loop-siblings-smaller
loop-siblings-smaller c =
    let here = c.loop-siblings.lines in
    let after = c.next_sibling.new.lines in
    let one = rw c.in-Some.is at c.in_ok-sibling.ensures.found in
    sibling_shorter c.args.names.now.positions.now here.rest.now after.rest.now here.number after.number (listed_sibling c.in-Some.sibling) one

pub returns : goal.returns
returns c =
    let start = c.args.lines.now in
    let here = c.loop-siblings.lines in
    let none = rw c.in_default.is at c.in_ok-sibling.ensures.none in
    rw none.0 (are_siblings c.args.names.now.positions.now start.rest.now here.rest.now start.number here.number (map listed_sibling c.loop-siblings.siblings.items) c.loop-siblings.invariant none.1)
