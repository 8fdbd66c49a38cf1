use Rattle.last_minute.proofs.issuing.sheet_of.Goals as goal

pub effective_figures-requires : goal.effective_figures-requires
effective_figures-requires c = c.requires.limits.changes
