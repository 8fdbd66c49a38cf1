use Rattle.std.proofs.Common.{◌≡◌, ◌∙◌, ap, arith}
use Rattle.std.proofs.lemmas.Int.{ints}
use Rattle.mass_units.specs.Spelling.{number_text}
use Rattle.text_lines.proofs.NameLemmas.{none_if}
use Rattle.priced_certificate.proofs.PriceWords.{price_below, price_plain, none_below, none_zero, none_plain}
use Rattle.priced_certificate.proofs.price_words.read_price.Goals as goal

pub returns-in_err-n-in-Some-clause-none : goal.returns-in_err-n-in-Some-clause-none
returns-in_err-n-in-Some-clause-none c = none_if _ _ (none_below c.args.word.now c.in-Some.size.now c.in-Some.ensures.found c.in_err-n-in-Some.ensures.none)

pub returns-in_err-read_size-in-None-clause-none : goal.returns-in_err-read_size-in-None-clause-none
returns-in_err-read_size-in-None-clause-none c = none_if _ _ (none_plain c.args.word.now c.in-None.ensures.none c.in_err-read_size-in-None.ensures.none)

pub returns-in-0-clause-none : goal.returns-in-0-clause-none
returns-in-0-clause-none c =
    let zero_text : c.in-Some.size.now ≡ number_text 0 = c.in_ok-n-in-Some.ensures.some.1 ∙ ap number_text c.in-0.is in
    none_zero c.args.word.now c.in-Some.size.now c.in-Some.ensures.found zero_text

pub returns-in_default-clause-some : goal.returns-in_default-clause-some
returns-in_default-clause-some c =
    let n = c.in_ok-n-in-Some.n in
    let small = c.in_ok-n-in-Some.ensures.some.0 in
    price_below c.args.word.now c.in-Some.size.now n _ c.in-Some.ensures.found (omega arith) small c.in_ok-n-in-Some.ensures.some.1 (omega (arith, ints))

pub returns-in_ok-read_size-in-None-clause-some : goal.returns-in_ok-read_size-in-None-clause-some
returns-in_ok-read_size-in-None-clause-some c =
    let n = c.in_ok-read_size-in-None.field-0 in
    let small = c.in_ok-read_size-in-None.ensures.some.0 in
    price_plain c.args.word.now n _ small c.in_ok-read_size-in-None.ensures.some.1 (omega (arith, ints))
