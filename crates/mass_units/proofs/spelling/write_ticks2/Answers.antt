use Rattle.std.proofs.Common.{arith, rules, ap, sym, ◌∙◌, ◌≡◌, ◌+◌, ◌/◌, ◌++◌, ℕ, unsigned_abs, FitsSigned}
use Rattle.std.proofs.lemmas.Result.{IfOk-equal}
use Rattle.std.proofs.lemmas.Int.{to_z-of_z}
use Rattle.std.specs.Int.{w64}
use Rattle.mass_units.proofs.SpellingLemmas.{short_index_text-parts, IsRounded-hundredths}
use Rattle.mass_units.proofs.spelling.write_ticks2.Goals as goal

pub returns-clause-ok : goal.returns-clause-ok
returns-clause-ok c =
    let fits : FitsSigned w64 c.args.t.0 = search rules in
    let same : c.unsigned_abs.result ≡ unsigned_abs c.args.t.0 = c.unsigned_abs.ensures.value ∙ ap unsigned_abs (to_z-of_z w64 c.args.t.0 fits) in
    let size : ℕ = (c.unsigned_abs.result + 500) / 1000 in
    let parts = short_index_text-parts c.args.t.0 size (ap (λ n. (n + 500) / 1000) same) (omega (arith, c.unsigned_abs.ensures.bound)) in
    IfOk-equal c.append.result _ _ _ c.append.ensures.ok
    (ap (λ t. c.args.out.now.items ++ t) (rw (c.sign_of_hundredths.ensures, c.two_decimals-decimals.ensures) (sym parts)))

pub returns-clause-rounded : goal.returns-clause-rounded
returns-clause-rounded c = IsRounded-hundredths c.args.t.0
