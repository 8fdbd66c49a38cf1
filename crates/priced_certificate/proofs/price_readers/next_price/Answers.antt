use Rattle.std.proofs.Common.{◌++◌, sym, ◌∙◌, lit<, codes}
use Rattle.std.proofs.lemmas.List.{append_cancel_left}
use Rattle.mass_units.specs.Spelling.{signed_text}
use Rattle.mass_units.proofs.SpellingLemmas.{signed_text-avoids}
use Rattle.text_lines.proofs.CutLemmas.{cut_once}
use Rattle.text_lines.proofs.NameLemmas.{none_if}
use Rattle.priced_certificate.specs.Reading.{HasNoPrice}
use Rattle.priced_certificate.proofs.price_readers.next_price.Goals as goal

pub returns-in_err-read_price-clause-none : goal.returns-in_err-read_price-clause-none
returns-in_err-read_price-clause-none c =
    let none : HasNoPrice c.args.words.now = λ price rest s cut e.
    let behind = append_cancel_left (codes " ") c.in_ok-after_prefix.field-0.now (signed_text price ++ rest) (sym c.in_ok-after_prefix.ensures.found ∙ e) in
    c.in_err-read_price.ensures.none price s
    (cut_once 32 c.cut.result.0.now c.cut.result.1.now (signed_text price) rest c.cut.ensures.front (signed_text-avoids 32 price (lit< tt)) c.cut.ensures.rest cut (sym c.cut.ensures.whole ∙ behind)).0 in
    none_if _ _ none
