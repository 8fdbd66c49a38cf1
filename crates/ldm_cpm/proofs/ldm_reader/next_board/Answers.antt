use Rattle.telex.specs.Items.{placed_line}
use Rattle.ldm_cpm.proofs.LineReading.{board-found, board-back}
use Rattle.ldm_cpm.proofs.ldm_reader.next_board.Goals as goal

pub returns-in_ok-parts-in-Some-clause-found : goal.returns-in_ok-parts-in-Some-clause-found
returns-in_ok-parts-in-Some-clause-found c =
    let placed = placed_line c.in-Some.line in
    let parts = c.in_ok-parts-in-Some.field-0.items in
    let slice = c.as_slice.result.now in
    board-found c.read_board.result c.args.lines.now c.next.new.self placed parts slice c.in-Some.ensures.steps c.in_ok-parts-in-Some.ensures.parts c.in_ok-parts-in-Some.ensures.joined
    c.as_slice.ensures.value c.read_board.ensures.destination c.read_board.ensures.some

pub returns-in_ok-parts-in-Some-clause-read_back : goal.returns-in_ok-parts-in-Some-clause-read_back
returns-in_ok-parts-in-Some-clause-read_back c =
    let placed = placed_line c.in-Some.line in
    let parts = c.in_ok-parts-in-Some.field-0.items in
    let slice = c.as_slice.result.now in
    board-back c.read_board.result c.args.lines.now c.next.new.self placed parts slice c.in-Some.ensures.steps c.as_slice.ensures.value c.in_ok-parts-in-Some.ensures.elements
    c.read_board.ensures.read_back
