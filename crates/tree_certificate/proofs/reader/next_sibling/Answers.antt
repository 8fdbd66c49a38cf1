use Rattle.tree_certificate.specs.Listed.{ListedSibling}
use Rattle.tree_certificate.proofs.SectionSteps.{is_sibling}
use Rattle.tree_certificate.proofs.reader.next_sibling.Goals as goal

pub returns-clause-found : goal.returns-clause-found
returns-clause-found c =
    let x : ListedSibling = record { rank = c.in-Some.rank; position = c.in-Some.position; operations = c.in_ok-operations.operations.items } in
    is_sibling c.args.names.now.positions.now c.args.lines.now.rest.now c.in-Some.after.rest.now c.read_section.new.lines.rest.now c.args.lines.now.number c.in-Some.after.number c.read_section.new.lines.number x
    c.in-Some.ensures.found.0 c.in-Some.ensures.found.1 c.in-Some.ensures.counted c.in_ok-operations.ensures
