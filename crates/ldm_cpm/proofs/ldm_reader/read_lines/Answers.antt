use Rattle.std.proofs.Common.{List, ◌∷◌, ap, ◌∙◌}
use Rattle.telex.specs.Lines.{PlacedLine}
use Rattle.ldm_cpm.specs.Messages.{LoadMessage, IsSpelledLdm}
use Rattle.ldm_cpm.specs.Reading.{heading_of, crew_of, board_said}
use Rattle.ldm_cpm.proofs.LdmReading.{HasCrew, fails-title, fails-crew, fails-board, fails-more, passes, read-ldm, back-ldm}
use Rattle.ldm_cpm.proofs.ldm_reader.read_lines.Goals as goal

pub returns-then-not-next_title-clause-refused : goal.returns-then-not-next_title-clause-refused
returns-then-not-next_title-clause-refused c = fails-title c.args.lines (rw c.if-not-next_title.true at c.next_title.ensures.other)

pub returns-then-not-next_title-clause-read_back : goal.returns-then-not-next_title-clause-read_back
returns-then-not-next_title-clause-read_back c = λ m s are. absurd (passes c.args.lines 1 m (fails-title c.args.lines (rw c.if-not-next_title.true at c.next_title.ensures.other)) s are)

pub returns-in_default-clause-refused : goal.returns-in_default-clause-refused
returns-in_default-clause-refused c =
    let title = rw c.if-not-next_title.false at c.next_title.ensures.found in
    let none = rw c.in_default.is at c.in_ok-head.ensures.read_back in
    fails-crew c.args.lines title.0 c.next_title.new.lines title.1 title.2 none

pub returns-in_default-clause-read_back : goal.returns-in_default-clause-read_back
returns-in_default-clause-read_back c = λ m s are.
    let title = rw c.if-not-next_title.false at c.next_title.ensures.found in
    let none = rw c.in_default.is at c.in_ok-head.ensures.read_back in
    absurd (passes c.args.lines 2 m (fails-crew c.args.lines title.0 c.next_title.new.lines title.1 title.2 none) s are)

pub returns-in_default-2-clause-refused : goal.returns-in_default-2-clause-refused
returns-in_default-2-clause-refused c =
    let title = rw c.if-not-next_title.false at c.next_title.ensures.found in
    let second = rw c.in-Some.is at c.in_ok-head.ensures.found in
    let spelled = rw c.in-Some.is at c.in_ok-head.ensures.spelled in
    let head = c.in-Some.head in
    let read : HasCrew c.args.lines c.next_head.new.lines (heading_of head) (crew_of head).0 (crew_of head).1 = record {
      title = title.0;
      second = second.0;
      are = title.1 ∙ ap (λ (ls : List PlacedLine). title.0 ∷ ls) second.1;
      named = title.2;
      says = second.2;
      spelled = spelled.0;
      few = spelled.1;
      seldom = spelled.2;
    } in
    let none = rw c.in_default-2.is at c.in_ok-board.ensures.read_back in
    fails-board c.args.lines c.next_head.new.lines (heading_of head) (crew_of head).0 (crew_of head).1 read none

pub returns-in_default-2-clause-read_back : goal.returns-in_default-2-clause-read_back
returns-in_default-2-clause-read_back c = λ m s are.
    let title = rw c.if-not-next_title.false at c.next_title.ensures.found in
    let second = rw c.in-Some.is at c.in_ok-head.ensures.found in
    let spelled = rw c.in-Some.is at c.in_ok-head.ensures.spelled in
    let head = c.in-Some.head in
    let read : HasCrew c.args.lines c.next_head.new.lines (heading_of head) (crew_of head).0 (crew_of head).1 = record {
      title = title.0;
      second = second.0;
      are = title.1 ∙ ap (λ (ls : List PlacedLine). title.0 ∷ ls) second.1;
      named = title.2;
      says = second.2;
      spelled = spelled.0;
      few = spelled.1;
      seldom = spelled.2;
    } in
    let none = rw c.in_default-2.is at c.in_ok-board.ensures.read_back in
    absurd (passes c.args.lines 3 m (fails-board c.args.lines c.next_head.new.lines (heading_of head) (crew_of head).0 (crew_of head).1 read none) s are)

pub returns-in-Some-next-clause-refused : goal.returns-in-Some-next-clause-refused
returns-in-Some-next-clause-refused c =
    let title = rw c.if-not-next_title.false at c.next_title.ensures.found in
    let second = rw c.in-Some.is at c.in_ok-head.ensures.found in
    let spelled = rw c.in-Some.is at c.in_ok-head.ensures.spelled in
    let head = c.in-Some.head in
    let read : HasCrew c.args.lines c.next_head.new.lines (heading_of head) (crew_of head).0 (crew_of head).1 = record {
      title = title.0;
      second = second.0;
      are = title.1 ∙ ap (λ (ls : List PlacedLine). title.0 ∷ ls) second.1;
      named = title.2;
      says = second.2;
      spelled = spelled.0;
      few = spelled.1;
      seldom = spelled.2;
    } in
    let third = rw c.in-Some-2.is at c.in_ok-board.ensures.found in
    let board = c.in-Some-2.board in
    let m : LoadMessage = record { heading = heading_of head; cockpit = (crew_of head).0; cabin = (crew_of head).1; board = board_said board } in
    let whole : IsSpelledLdm m = record { heading = spelled.0; cockpit = spelled.1; cabin = spelled.2; board = rw c.in-Some-2.is at c.in_ok-board.ensures.spelled } in
    fails-more c.args.lines c.next_head.new.lines m third.0 _ c.next_board.new.lines c.next.new.self whole read third.1 third.2 c.in-Some-next.ensures.steps

pub returns-clause-said : goal.returns-clause-said
returns-clause-said c =
    let title = rw c.if-not-next_title.false at c.next_title.ensures.found in
    let second = rw c.in-Some.is at c.in_ok-head.ensures.found in
    let spelled = rw c.in-Some.is at c.in_ok-head.ensures.spelled in
    let head = c.in-Some.head in
    let read : HasCrew c.args.lines c.next_head.new.lines (heading_of head) (crew_of head).0 (crew_of head).1 = record {
      title = title.0;
      second = second.0;
      are = title.1 ∙ ap (λ (ls : List PlacedLine). title.0 ∷ ls) second.1;
      named = title.2;
      says = second.2;
      spelled = spelled.0;
      few = spelled.1;
      seldom = spelled.2;
    } in
    let third = rw c.in-Some-2.is at c.in_ok-board.ensures.found in
    let board = c.in-Some-2.board in
    let m : LoadMessage = record { heading = heading_of head; cockpit = (crew_of head).0; cabin = (crew_of head).1; board = board_said board } in
    read-ldm c.args.lines c.next_title.new.lines c.next_head.new.lines c.next_board.new.lines title.0 second.0 third.0 m title.1 title.2 second.1 second.2 third.1 third.2 c.in-None.ensures.steps.0

pub returns-clause-read_back : goal.returns-clause-read_back
returns-clause-read_back c = λ m s are.
    let title = rw c.if-not-next_title.false at c.next_title.ensures.found in
    let second = rw c.in-Some.is at c.in_ok-head.ensures.found in
    let third = rw c.in-Some-2.is at c.in_ok-board.ensures.found in
    let head = c.in-Some.head in
    let first = rw c.in-Some.is at c.in_ok-head.ensures.read_back in
    let other = rw c.in-Some-2.is at c.in_ok-board.ensures.read_back in
    back-ldm c.args.lines c.next_title.new.lines c.next_head.new.lines c.next_board.new.lines title.0 second.0 third.0 (heading_of head) (crew_of head) (board_said c.in-Some-2.board) m
    title.1 second.1 third.1 first other s are
