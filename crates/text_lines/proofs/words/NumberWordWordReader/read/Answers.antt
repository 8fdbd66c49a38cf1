use Rattle.std.proofs.Common.{◌<◌, ◌^◌, ◌∙◌, sym, arith}
use Rattle.mass_units.proofs.SpellingLemmas.{number_text-injective}
use Rattle.text_lines.proofs.words.NumberWordWordReader.read.Goals as goal

pub returns-in_err-number-clause-none : goal.returns-in_err-number-clause-none
returns-in_err-number-clause-none c =
    rw c.from_residual.ensures (λ x s e.
    let most = s.1 in
    let fits = c.args.self.now.fits in
    let small : x < 2 ^ 32 = omega arith in
    cc (c.in_err-number.ensures.read_back x small e))

pub returns-then-number-self-clause-none : goal.returns-then-number-self-clause-none
returns-then-number-self-clause-none c =
    λ x s e.
    let same = number_text-injective c.in_ok-number.number x (sym c.in_ok-number.ensures.some ∙ e) in
    let least = s.0 in
    absurd (omega arith)

pub returns-then-number-self-2-clause-none : goal.returns-then-number-self-2-clause-none
returns-then-number-self-2-clause-none c =
    λ x s e.
    let same = number_text-injective c.in_ok-number.number x (sym c.in_ok-number.ensures.some ∙ e) in
    let most = s.1 in
    absurd (omega arith)
