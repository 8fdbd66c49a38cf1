use Rattle.std.proofs.Common.{◌≡◌, ◌∷◌, ◌++◌, ◌∙◌, sym, refl, lit<}
use Rattle.std.proofs.lemmas.List.{append_assoc}
use Rattle.mass_units.specs.Spelling.{number_text}
use Rattle.mass_units.proofs.SpellingLemmas.{number_text-avoids}
use Rattle.text_lines.proofs.CutLemmas.{cut_once}
use Rattle.text_lines.specs.SpelledWords.{kind_avoids}
use Rattle.problem_text.proofs.position_reader.next_fit.Goals as goal

pub returns-in_err-read_number-clause-read_back : goal.returns-in_err-read_number-clause-read_back
returns-in_err-read_number-clause-read_back c =
    λ fit rest spelled cut e.
    let words : c.in_ok-after_prefix.field-0.now ≡ (fit.kind ++ 32 ∷ number_text fit.most.0) ++ rest = cc (c.in_ok-after_prefix.ensures.found, e) in
    let one = c.in_ok-kind.ensures.read_back fit.kind (number_text fit.most.0 ++ rest) (kind_avoids 32 fit.kind (lit< tt) spelled.kind) (words ∙ append_assoc fit.kind (32 ∷ number_text fit.most.0) rest) in
    let two = cut_once 32 c.cut.result.0.now c.cut.result.1.now (number_text fit.most.0) rest c.cut.ensures.front (number_text-avoids 32 fit.most.0 (lit< tt)) c.cut.ensures.rest cut (sym c.cut.ensures.whole ∙ one.1) in
    absurd (cc (c.in_err-read_number.ensures.read_back fit.most.0 spelled.mass two.0))

pub returns-clause-read_back : goal.returns-clause-read_back
returns-clause-read_back c =
    λ fit rest spelled cut e.
    let words : c.in_ok-after_prefix.field-0.now ≡ (fit.kind ++ 32 ∷ number_text fit.most.0) ++ rest = cc (c.in_ok-after_prefix.ensures.found, e) in
    let one = c.in_ok-kind.ensures.read_back fit.kind (number_text fit.most.0 ++ rest) (kind_avoids 32 fit.kind (lit< tt) spelled.kind) (words ∙ append_assoc fit.kind (32 ∷ number_text fit.most.0) rest) in
    let two = cut_once 32 c.cut.result.0.now c.cut.result.1.now (number_text fit.most.0) rest c.cut.ensures.front (number_text-avoids 32 fit.most.0 (lit< tt)) c.cut.ensures.rest cut (sym c.cut.ensures.whole ∙ one.1) in
    let kind : c.in_ok-kind-2.kind ≡ fit.kind = cc (c.in_ok-kind-2.ensures.found.0, one.0) in
    let most : c.in_ok-read_number.field-0 ≡ fit.most.0 = cc (c.in_ok-read_number.ensures.read_back fit.most.0 spelled.mass two.0) in
    (rw (kind, most) refl, two.1)
