use Rattle.std.proofs.Common.{arith, rules, ap, sym, ◌∙◌, ◌≡◌, ◌++◌, unsigned_abs, FitsSigned}
use Rattle.std.proofs.lemmas.Result.{IfOk-equal}
use Rattle.std.proofs.lemmas.Int.{to_z-of_z}
use Rattle.std.specs.Int.{w64}
use Rattle.mass_units.proofs.SpellingLemmas.{index_text-parts, unsigned_abs-fits}
use Rattle.mass_units.proofs.spelling.write_ticks5.Goals as goal

pub returns-clause-ok : goal.returns-clause-ok
returns-clause-ok c =
    let fits : FitsSigned w64 c.args.t.0 = search rules in
    let size : c.unsigned_abs-size.result ≡ unsigned_abs c.args.t.0 = c.unsigned_abs-size.ensures.value ∙ ap unsigned_abs (to_z-of_z w64 c.args.t.0 fits) in
    let parts = index_text-parts c.args.t.0 (omega (arith, unsigned_abs-fits w64 c.args.t.0 fits)) in
    IfOk-equal c.append.result _ _ _ c.append.ensures.ok
    (ap (λ t. c.args.out.now.items ++ t) (rw (c.sign_of.ensures, c.five_decimals-decimals.ensures, size) (sym parts)))
