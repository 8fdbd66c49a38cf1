use Rattle.std.proofs.Common.{arith, ap, sym, ◌∙◌, ◌++◌}
use Rattle.std.proofs.lemmas.Int.{to_z-of_z}
use Rattle.std.specs.Fmt.{signed_decimal}
use Rattle.std.specs.Int.{w32}
use Rattle.mass_units.proofs.SpellingLemmas.{signed_text-decimal, unsigned_abs-fits}
use Rattle.mass_units.proofs.spelling.write_signed.Goals as goal

pub returns-clause-ok : goal.returns-clause-ok
returns-clause-ok c =
    let printed = ap signed_decimal (to_z-of_z w32 c.args.n c.ranges.n) in
    let text = c.as_bytes.ensures.value ∙ c.format.ensures.text ∙ printed ∙ sym (signed_text-decimal c.args.n (omega (arith, unsigned_abs-fits w32 c.args.n c.ranges.n))) in
    c.in_ok-extend_from_slice.ensures.items ∙ ap (λ t. c.args.out.now.items ++ t) text
