use Rattle.std.proofs.Common.{◌≡◌, ◌++◌, ◌∙◌, length, sym, arith, lit<}
use Rattle.mass_units.specs.Spelling.{number_text}
use Rattle.mass_units.proofs.SpellingLemmas.{number_text-avoids}
use Rattle.text_lines.proofs.CutLemmas.{cut_once}
use Rattle.std.proofs.lemmas.Bool.Decides.{nat_tests}
use Rattle.text_lines.proofs.NameLemmas.{length-zero}
use Rattle.problem_text.proofs.limit_readers.combined_words.Goals as goal

pub returns-in_err-read_number-clause-read_back : goal.returns-in_err-read_number-clause-read_back
returns-in_err-read_number-clause-read_back c =
    λ most words is cut some e.
    let rest : c.in_ok-after_prefix.field-0.now ≡ number_text most ++ words = cc (c.in_ok-after_prefix.ensures.found, e) in
    let parts = cut_once 32 c.cut.result.0.now c.cut.result.1.now (number_text most) words c.cut.ensures.front (number_text-avoids 32 most (lit< tt)) c.cut.ensures.rest cut (sym c.cut.ensures.whole ∙ rest) in
    absurd (cc (c.in_err-read_number.ensures.read_back most is parts.0))

pub returns-then-is_empty-clause-read_back : goal.returns-then-is_empty-clause-read_back
returns-then-is_empty-clause-read_back c =
    λ most words is cut some e.
    let rest : c.in_ok-after_prefix.field-0.now ≡ number_text most ++ words = cc (c.in_ok-after_prefix.ensures.found, e) in
    let parts = cut_once 32 c.cut.result.0.now c.cut.result.1.now (number_text most) words c.cut.ensures.front (number_text-avoids 32 most (lit< tt)) c.cut.ensures.rest cut (sym c.cut.ensures.whole ∙ rest) in
    let none : length c.cut.result.1.now ≡ 0 = grind (arith, nat_tests, c.if-is_empty.true, c.is_empty.ensures) in
    some (sym parts.1 ∙ length-zero c.cut.result.1.now none)

pub returns-clause-read_back : goal.returns-clause-read_back
returns-clause-read_back c =
    λ most words is cut some e.
    let rest : c.in_ok-after_prefix.field-0.now ≡ number_text most ++ words = cc (c.in_ok-after_prefix.ensures.found, e) in
    let parts = cut_once 32 c.cut.result.0.now c.cut.result.1.now (number_text most) words c.cut.ensures.front (number_text-avoids 32 most (lit< tt)) c.cut.ensures.rest cut (sym c.cut.ensures.whole ∙ rest) in
    (let read = c.in_ok-read_number.ensures.read_back most is parts.0 in cc, parts.1)
