use Rattle.plan_reasons.proofs.text.write_why.Goals as goal

pub returns-in-NoPlan : goal.returns-in-NoPlan
returns-in-NoPlan c = rw c.in-NoPlan.is c.write_reasons.ensures

pub returns-in-Open : goal.returns-in-Open
returns-in-Open c = rw c.in-Open.is c.write_reasons-in-Open.ensures
