use Rattle.std.proofs.Common.{Some, ap₂, ◌∙◌, arith}
use Rattle.std.proofs.lemmas.Int.{ints}
use Rattle.hold_partial.proofs.partial.Partial.reach.Goals as goal

pub returns-in_err-span : goal.returns-in_err-span
returns-in_err-span c = rw (← c.self.view_is, c.from_residual.ensures) c.in_err-span.ensures.value

pub returns : goal.returns
returns c = rw (← c.self.view_is) (ap₂ (λ low high. Some (low, high)) (omega (arith, ints)) (omega (arith, ints)) ∙ c.in_ok-span.ensures.value)
