use Rattle.plan_commands.proofs.transit_files.flight_of.Goals as goal

pub returns-in_ok-line_of_transit_fault-in-Err-clause-refused : goal.returns-in_ok-line_of_transit_fault-in-Err-clause-refused
returns-in_ok-line_of_transit_fault-in-Err-clause-refused c =
    let told = c.in_ok-line_of_transit_fault-in-Err.ensures in
    record { fault = c.in-Err.fault; first = c.in-Err.ensures.refused (λ e. rw e at told); told = told }
