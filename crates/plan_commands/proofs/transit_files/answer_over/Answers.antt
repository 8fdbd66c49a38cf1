use Rattle.transit_answers.specs.TransitReply.{transit_of}
use Rattle.plan_commands.proofs.FileLemmas.{IfErr-from_residual}
use Rattle.plan_commands.proofs.transit_files.answer_over.Goals as goal

pub returns-in_err-flight-clause-refused : goal.returns-in_err-flight-clause-refused
returns-in_err-flight-clause-refused g c =
    IfErr-from_residual c.from_residual.result c.in_err-flight.field-0.0 _ c.from_residual.ensures.1 c.in_err-flight.ensures.refused

pub returns-clause-answered : goal.returns-clause-answered
returns-clause-answered g c =
    (transit_of c.in_ok-flight.flight, c.in_ok-flight.ensures.stated, c.in_ok-answer_in_transit.ensures)
