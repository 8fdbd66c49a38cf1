use Rattle.std.proofs.Common.{ℕ, Some, option_map, ap, ◌∙◌}
use Rattle.hold_reach.specs.Reach.{gap_to_ideal}
use Rattle.hold_partial.proofs.partial.Partial.bound.Goals as goal

pub returns-in_err-span : goal.returns-in_err-span
returns-in_err-span c = rw (← c.self.view_is) (c.from_residual.ensures ∙ ap (option_map (gap_to_ideal c.self.inside.board.task.now)) c.in_err-span.ensures.value)

pub returns : goal.returns
returns c = rw (← c.self.view_is) (ap (λ (gap : ℕ). Some gap) c.gap_to_ideal.ensures ∙ ap (option_map (gap_to_ideal c.self.inside.board.task.now)) c.in_ok-span.ensures.value)
