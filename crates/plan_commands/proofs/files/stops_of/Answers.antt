use Rattle.plan_answers.specs.StopReply.IsStopRefusal.{no_load}
use Rattle.plan_answers.proofs.StopJobLemmas.{read-stops}
use Rattle.plan_commands.proofs.files.stops_of.Goals as goal

pub returns-in-Ok-clause-read : goal.returns-in-Ok-clause-read
returns-in-Ok-clause-read c = read-stops c.args.bytes.now c.in-Ok.stops c.requires c.in-Ok.ensures.read

pub returns-in_ok-line_of_stop_fault-in-Err-clause-refused : goal.returns-in_ok-line_of_stop_fault-in-Err-clause-refused
returns-in_ok-line_of_stop_fault-in-Err-clause-refused c =
    no_load c.in-Err.fault c.in_ok-line_of_stop_fault-in-Err.field-0.items c.requires c.in-Err.ensures.refused c.in_ok-line_of_stop_fault-in-Err.ensures
