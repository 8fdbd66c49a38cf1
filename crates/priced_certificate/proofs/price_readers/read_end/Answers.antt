use Rattle.std.proofs.Common.{◌++◌, ◌∙◌, [], ap, sym, length, eq-eqb, refl, codes}
use Rattle.std.proofs.lemmas.Bool.{false≢true}
use Rattle.text_lines.proofs.NameLemmas.{none_if}
use Rattle.priced_certificate.specs.Reading.{IsEndLine}
use Rattle.priced_certificate.proofs.PriceRuns.{run, mark_stops, end_stops}
use Rattle.priced_certificate.proofs.EndLines.{behind_word, behind_items, behind_mark, behind_places}
use Rattle.priced_certificate.proofs.price_readers.read_end.Goals as goal

pub returns-in_err-items-clause-none : goal.returns-in_err-items-clause-none
returns-in_err-items-clause-none c =
    let none : IsEndLine c.args.word.now c.args.line.now → ⊥ = λ s.
    c.in_err-items.ensures.none s.items (codes " ;" ++ run s.places) s.right.containers refl (mark_stops (run s.places))
    (behind_word c.args.word.now c.args.line.now c.in_ok-after_prefix.field-0.now c.in_ok-after_prefix.ensures.found s) in
    none_if _ _ none

pub returns-in_err-after_prefix-2-clause-none : goal.returns-in_err-after_prefix-2-clause-none
returns-in_err-after_prefix-2-clause-none c =
    let none : IsEndLine c.args.word.now c.args.line.now → ⊥ = λ s.
    c.in_err-after_prefix-2.ensures.none (run s.places)
    (behind_items c.args.word.now c.args.line.now c.in_ok-after_prefix.field-0.now c.in_ok-items.after.now c.in_ok-items.items.items c.in_ok-after_prefix.ensures.found c.in_ok-items.ensures.found s) in
    none_if _ _ none

pub returns-in_err-places-clause-none : goal.returns-in_err-places-clause-none
returns-in_err-places-clause-none c =
    let none : IsEndLine c.args.word.now c.args.line.now → ⊥ = λ s.
    c.in_err-places.ensures.none s.places [] s.right.positions tt end_stops
    (behind_mark c.args.word.now c.args.line.now c.in_ok-after_prefix.field-0.now c.in_ok-items.after.now c.in_ok-after_prefix-2.field-0.now c.in_ok-items.items.items
    c.in_ok-after_prefix.ensures.found c.in_ok-items.ensures.found c.in_ok-after_prefix-2.ensures.found s) in
    none_if _ _ none

pub returns-then-not-is_empty-clause-none : goal.returns-then-not-is_empty-clause-none
returns-then-not-is_empty-clause-none c =
    λ s.
    let none = behind_places c.args.word.now c.args.line.now c.in_ok-after_prefix.field-0.now c.in_ok-items.after.now c.in_ok-after_prefix-2.field-0.now c.in_ok-places.rest.now c.in_ok-items.items.items c.in_ok-places.places.items
    c.in_ok-after_prefix.ensures.found c.in_ok-items.ensures.found c.in_ok-after_prefix-2.ensures.found c.in_ok-places.ensures.found s in
    false≢true (sym c.if-not-is_empty.true ∙ c.is_empty.ensures ∙ eq-eqb (length c.in_ok-places.rest.now) 0 (ap length none))
