use Rattle.std.proofs.Common.{arith, ap, sym, ◌∙◌, ◌++◌}
use Rattle.std.proofs.lemmas.Result.{IfOk-equal}
use Rattle.telex.proofs.NumberLaws.{number_text-wide}
use Rattle.telex.proofs.writing.Builder.sum.Goals as goal

pub returns-clause-added : goal.returns-clause-added
returns-clause-added c =
    let text = c.as_bytes.ensures.value ∙ c.format.ensures.text ∙ sym (number_text-wide c.args.total (omega (arith, c.ranges.total.fits))) in
    IfOk-equal c.text.result c.text.new.self (c.args.self.now ++ c.as_bytes.result.now) _ c.text.ensures.added (ap (λ t. c.args.self.now ++ t) text)
