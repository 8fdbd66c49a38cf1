use Rattle.hold_partial.proofs.partial.Partial.open_sets.Goals as goal

pub returns-clause-sets : goal.returns-clause-sets
returns-clause-sets c = rw (← c.self.view_is) c.open_sets.ensures.sets
