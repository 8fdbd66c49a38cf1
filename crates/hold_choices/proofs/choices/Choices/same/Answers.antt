use Rattle.std.proofs.Common.{sym, ◌∙◌}
use Rattle.hold_choices.proofs.choices.Choices.same.Goals as goal

pub returns : goal.returns
returns c = (
  λ yes. sym c.sets.ensures.sets ∙ c.are_same.ensures.0 yes ∙ c.sets-2.ensures.sets,
  λ is. c.are_same.ensures.1 (c.sets.ensures.sets ∙ is ∙ sym c.sets-2.ensures.sets),
)
