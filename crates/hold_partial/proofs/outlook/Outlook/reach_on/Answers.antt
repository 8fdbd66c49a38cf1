use Rattle.hold_partial.proofs.outlook.Outlook.reach_on.Goals as goal

pub returns-clause-value : goal.returns-clause-value
returns-clause-value c = rw (← c.self.view_is) c.span_after.ensures.value
