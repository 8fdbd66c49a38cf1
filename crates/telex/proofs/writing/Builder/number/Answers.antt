use Rattle.std.proofs.Common.{arith, ap, sym, ◌∙◌, ◌++◌}
use Rattle.std.proofs.lemmas.Int.{to_z-of_z}
use Rattle.std.proofs.lemmas.Result.{IfOk-equal}
use Rattle.std.specs.Fmt.{signed_decimal}
use Rattle.std.specs.Int.{w64}
use Rattle.mass_units.proofs.SpellingLemmas.{unsigned_abs-fits}
use Rattle.telex.proofs.NumberLaws.{signed_text-printed}
use Rattle.telex.proofs.writing.Builder.number.Goals as goal

pub returns-clause-added : goal.returns-clause-added
returns-clause-added c =
    let printed = ap signed_decimal (to_z-of_z w64 c.args.n c.ranges.n) in
    let text = c.as_bytes.ensures.value ∙ c.format.ensures.text ∙ printed ∙ sym (signed_text-printed c.args.n (omega (arith, unsigned_abs-fits w64 c.args.n c.ranges.n))) in
    IfOk-equal c.text.result c.text.new.self (c.args.self.now ++ c.as_bytes.result.now) _ c.text.ensures.added (ap (λ t. c.args.self.now ++ t) text)
