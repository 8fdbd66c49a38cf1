use Rattle.std.proofs.Common.{◌≡◌, true, false, refl, sym, ap, ◌∙◌, arith}
use Rattle.std.specs.List.{list_any}
use Rattle.telex.specs.Elements.{said}
use Rattle.telex.specs.Items.{placed_line}
use Rattle.ldm_cpm.proofs.NameLemmas.{has_name}
use Rattle.ldm_cpm.proofs.PushLemmas.{says-position, last-spelled, line-of_position, stands-in_line, pushed-spelled, pushed-said, too-many, named-twice}
use Rattle.ldm_cpm.specs.Reading.{placing_said}
use Rattle.std.specs.Prelude.{map}
use Rattle.ldm_cpm.proofs.cpm_reader.push_place.Goals as goal

pub returns-then-len-ge-MOST_PLACES-clause-read_back : goal.returns-then-len-ge-MOST_PLACES-clause-read_back
returns-then-len-ge-MOST_PLACES-clause-read_back c = λ p is s. absurd (too-many c.args.places.now.items p (omega arith) s)

pub returns-in_default-clause-read_back : goal.returns-in_default-clause-read_back
returns-in_default-clause-read_back c = λ p is s.
    let old = map placing_said c.args.places.now.items in
    let says = says-position c.args.line.now.text.now c.in_ok-parts.field-0.items old p c.in_ok-parts.ensures.elements is s in
    absurd (c.in_default.ensures.read_back p (last-spelled old p s) (ap said c.as_slice.ensures.value ∙ says))

pub returns-then-is_named-clause-read_back : goal.returns-then-is_named-clause-read_back
returns-then-is_named-clause-read_back c = λ p is s.
    let items = c.args.places.now.items in
    let old = map placing_said items in
    let place = c.in-Some.place in
    let says = says-position c.args.line.now.text.now c.in_ok-parts.field-0.items old p c.in_ok-parts.ensures.elements is s in
    let same = c.in-Some.ensures.read_back p (last-spelled old p s) (ap said c.as_slice.ensures.value ∙ says) in
    let there : list_any (has_name place.name.text.now) items ≡ true = ap (list_any (has_name place.name.text.now)) (sym c.as_slice-2.ensures.value) ∙ sym c.is_named.ensures ∙ c.if-is_named.true in
    absurd (named-twice items place p there same s)

pub returns-clause-added : goal.returns-clause-added
returns-clause-added c =
    let line = c.args.line.now in
    let parts = c.in_ok-parts.field-0.items in
    let slice = c.as_slice.result.now in
    let place = c.in-Some.place in (
      place,
      c.in_ok-push.ensures.items,
      line-of_position line.text.now parts slice place c.in_ok-parts.ensures.joined c.as_slice.ensures.value c.in-Some.ensures.said,
      stands-in_line (placed_line line) parts slice place c.in_ok-parts.ensures.parts c.as_slice.ensures.value c.in-Some.ensures.stands,
    )

pub returns-clause-spelled : goal.returns-clause-spelled
returns-clause-spelled c = λ s.
    let items = c.args.places.now.items in
    let place = c.in-Some.place in
    let other : list_any (has_name place.name.text.now) items ≡ false = ap (list_any (has_name place.name.text.now)) (sym c.as_slice-2.ensures.value) ∙ sym c.is_named.ensures ∙ c.if-is_named.false in
    rw c.in_ok-push.ensures.items (pushed-spelled items place c.in-Some.ensures.spelled other (omega arith) s)

pub returns-clause-read_back : goal.returns-clause-read_back
returns-clause-read_back c = λ p is s.
    let items = c.args.places.now.items in
    let old = map placing_said items in
    let place = c.in-Some.place in
    let says = says-position c.args.line.now.text.now c.in_ok-parts.field-0.items old p c.in_ok-parts.ensures.elements is s in
    let same = c.in-Some.ensures.read_back p (last-spelled old p s) (ap said c.as_slice.ensures.value ∙ says) in
    (refl, ap (map placing_said) c.in_ok-push.ensures.items ∙ pushed-said items place p same)
