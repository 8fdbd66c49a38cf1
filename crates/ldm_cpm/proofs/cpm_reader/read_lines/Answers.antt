use Rattle.std.proofs.Common.{◌≡◌, ◌∷◌, ◌∙◌, List, length, map, sym, ap, subst, arith}
use Rattle.std.proofs.lemmas.List.{length-map}
use Rattle.std.proofs.lemmas.Result.{err_from_is_err_and}
use Rattle.telex.specs.Lines.{PlacedLine}
use Rattle.ldm_cpm.specs.Messages.{AreSpelledPlacings, place_lines}
use Rattle.ldm_cpm.specs.Reading.{heading_of, placing_said, PlacesStand}
use Rattle.ldm_cpm.proofs.CpmReading.{with_head, fails-title, fails-heading, passes, texts-head, back-cpm, fault-behind, behind-head}
use Rattle.ldm_cpm.proofs.cpm_reader.read_lines.Goals as goal

pub returns-then-not-next_title-clause-refused : goal.returns-then-not-next_title-clause-refused
returns-then-not-next_title-clause-refused c = fails-title c.args.lines (rw c.if-not-next_title.true at c.next_title.ensures.other)

pub returns-then-not-next_title-clause-read_back : goal.returns-then-not-next_title-clause-read_back
returns-then-not-next_title-clause-read_back c = λ m s are. absurd (passes c.args.lines 1 m (returns-then-not-next_title-clause-refused c) s are)

pub returns-in_default-clause-refused : goal.returns-in_default-clause-refused
returns-in_default-clause-refused c =
    let title = rw c.if-not-next_title.false at c.next_title.ensures.found in
    fails-heading c.args.lines title.0 c.next_title.new.lines title.1 title.2 (rw c.in_default.is at c.in_ok-head.ensures.read_back)

pub returns-in_default-clause-read_back : goal.returns-in_default-clause-read_back
returns-in_default-clause-read_back c = λ m s are. absurd (passes c.args.lines 2 m (returns-in_default-clause-refused c) s are)

pub returns-in_err-places-clause-refused : goal.returns-in_err-places-clause-refused
returns-in_err-places-clause-refused c =
    let p = err_from_is_err_and c.from_residual-in_err-places.result c.from_residual-in_err-places.ensures.1 in
    let title = rw c.if-not-next_title.false at c.next_title.ensures.found in
    let second = rw c.in-Some.is at c.in_ok-head.ensures.found in
    rw (p.1, p.2) (fault-behind c.args.lines c.next_title.new.lines c.next_head.new.lines title.0 second.0 (heading_of c.in-Some.head) c.in_err-places.field-0.0 title.1 title.2 second.1 second.2
    (c.in_err-places.ensures.refused (heading_of c.in-Some.head) (rw c.in-Some.is at c.in_ok-head.ensures.spelled)))

pub returns-in_err-places-clause-read_back : goal.returns-in_err-places-clause-read_back
returns-in_err-places-clause-read_back c =
    let p = err_from_is_err_and c.from_residual-in_err-places.result c.from_residual-in_err-places.ensures.1 in
    let title = rw c.if-not-next_title.false at c.next_title.ensures.found in
    let second = rw c.in-Some.is at c.in_ok-head.ensures.found in
    rw (p.1) (λ m s are. p.2 ∙ c.in_err-places.ensures.read_back m.places s.places s.some
    (behind-head c.args.lines c.next_title.new.lines c.next_head.new.lines title.0 second.0 m title.1 second.1 are))

pub returns-clause-spelled : goal.returns-clause-spelled
returns-clause-spelled c =
    let same : c.from.result ≡ c.in_ok-places.places.items = c.from.ensures in
    record {
      heading = (rw c.in-Some.is at c.in_ok-head.ensures.spelled);
      places = subst (λ ps. AreSpelledPlacings (map placing_said ps)) (sym c.from.ensures) c.in_ok-places.ensures.spelled.0;
      some = omega (arith, c.in_ok-places.ensures.spelled.1, length-map c.from.result placing_said, ap length same);
    }

pub returns-clause-said : goal.returns-clause-said
returns-clause-said c =
    let title = rw c.if-not-next_title.false at c.next_title.ensures.found in
    let second = rw c.in-Some.is at c.in_ok-head.ensures.found in
    let h = heading_of c.in-Some.head in
    texts-head c.args.lines title.0 second.0 c.next_head.new.lines h (title.1 ∙ ap (λ (ls : List PlacedLine). title.0 ∷ ls) second.1) title.2 second.2
    ∙ ap (with_head h) (c.in_ok-places.ensures.said ∙ ap (λ ps. place_lines (map placing_said ps)) (sym c.from.ensures))

pub returns-clause-stands : goal.returns-clause-stands
returns-clause-stands c =
    let title = rw c.if-not-next_title.false at c.next_title.ensures.found in
    let second = rw c.in-Some.is at c.in_ok-head.ensures.found in
    record {
      title = title.0;
      second = second.0;
      others = c.next_head.new.lines;
      are = title.1 ∙ ap (λ (ls : List PlacedLine). title.0 ∷ ls) second.1;
      head = second.3;
      places = subst (PlacesStand c.next_head.new.lines) (sym c.from.ensures) c.in_ok-places.ensures.stands;
    }

pub returns-clause-read_back : goal.returns-clause-read_back
returns-clause-read_back c = λ m s are.
    let title = rw c.if-not-next_title.false at c.next_title.ensures.found in
    let second = rw c.in-Some.is at c.in_ok-head.ensures.found in
    back-cpm c.args.lines c.next_title.new.lines c.next_head.new.lines title.0 second.0 (heading_of c.in-Some.head) (map placing_said c.from.result) m title.1 second.1
    (rw c.in-Some.is at c.in_ok-head.ensures.read_back) (λ ps good some behind. ap (map placing_said) c.from.ensures ∙ c.in_ok-places.ensures.read_back ps good some behind) s are
