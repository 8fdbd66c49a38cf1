use Rattle.telex.specs.Items.{placed_line}
use Rattle.ldm_cpm.specs.Messages.{crew_elements}
use Rattle.ldm_cpm.proofs.LineReading.{line-says, crew-found, crew-spelled}
use Rattle.ldm_cpm.proofs.PlainLines.{elements-crew}
use Rattle.ldm_cpm.proofs.ldm_reader.next_head.Goals as goal

pub returns-in_ok-parts-in-Some-clause-found : goal.returns-in_ok-parts-in-Some-clause-found
returns-in_ok-parts-in-Some-clause-found c =
    let placed = placed_line c.in-Some.line in
    let parts = c.in_ok-parts-in-Some.field-0.items in
    let slice = c.as_slice.result.now in
    crew-found c.read_crew_head.result c.args.lines.now c.next.new.self placed parts slice c.in-Some.ensures.steps c.in_ok-parts-in-Some.ensures.parts c.in_ok-parts-in-Some.ensures.joined
    c.as_slice.ensures.value c.read_crew_head.ensures.parts c.read_crew_head.ensures.said

pub returns-in_ok-parts-in-Some-clause-spelled : goal.returns-in_ok-parts-in-Some-clause-spelled
returns-in_ok-parts-in-Some-clause-spelled c = crew-spelled c.read_crew_head.result c.read_crew_head.ensures.spelled c.read_crew_head.ensures.crew

pub returns-in_ok-parts-in-Some-clause-read_back : goal.returns-in_ok-parts-in-Some-clause-read_back
returns-in_ok-parts-in-Some-clause-read_back c = λ line more other h cockpit cabin s few seldom is.
    let placed = placed_line c.in-Some.line in
    let parts = c.in_ok-parts-in-Some.field-0.items in
    let slice = c.as_slice.result.now in
    c.read_crew_head.ensures.read_back h cockpit cabin s few seldom
    (line-says c.args.lines.now c.next.new.self more placed line parts slice (crew_elements h cockpit cabin) c.in-Some.ensures.steps c.as_slice.ensures.value
    c.in_ok-parts-in-Some.ensures.elements other (elements-crew h cockpit cabin s) is)
