use Rattle.telex.specs.Items.{placed_line}
use Rattle.ldm_cpm.specs.Messages.{heading_elements}
use Rattle.ldm_cpm.proofs.LineReading.{line-says, head-found}
use Rattle.ldm_cpm.proofs.PlainLines.{elements-heading}
use Rattle.ldm_cpm.proofs.cpm_reader.next_head.Goals as goal

pub returns-in_ok-parts-in-Some-clause-found : goal.returns-in_ok-parts-in-Some-clause-found
returns-in_ok-parts-in-Some-clause-found c =
    let placed = placed_line c.in-Some.line in
    let parts = c.in_ok-parts-in-Some.field-0.items in
    let slice = c.as_slice.result.now in
    head-found c.read_head.result c.args.lines.now c.next.new.self placed parts slice c.in-Some.ensures.steps c.in_ok-parts-in-Some.ensures.parts c.in_ok-parts-in-Some.ensures.joined
    c.as_slice.ensures.value c.read_head.ensures.parts c.read_head.ensures.said

pub returns-in_ok-parts-in-Some-clause-read_back : goal.returns-in_ok-parts-in-Some-clause-read_back
returns-in_ok-parts-in-Some-clause-read_back c = λ line more other h s is.
    let placed = placed_line c.in-Some.line in
    let parts = c.in_ok-parts-in-Some.field-0.items in
    let slice = c.as_slice.result.now in
    c.read_head.ensures.read_back h s
    (line-says c.args.lines.now c.next.new.self more placed line parts slice (heading_elements h) c.in-Some.ensures.steps c.as_slice.ensures.value
    c.in_ok-parts-in-Some.ensures.elements other (elements-heading h s) is)
