use Rattle.transit_answers.specs.MessageFiles.IsLdmRefusal.{no_message}
use Rattle.plan_commands.proofs.transit_files.ldm_of.Goals as goal

pub returns-in-Ok-clause-read : goal.returns-in-Ok-clause-read
returns-in-Ok-clause-read c = record { short = c.requires; is = c.in-Ok.ensures.read; alone = c.in-Ok.ensures.read_back }

pub returns-in_ok-line_of_message_fault-in-Err-clause-refused : goal.returns-in_ok-line_of_message_fault-in-Err-clause-refused
returns-in_ok-line_of_message_fault-in-Err-clause-refused c =
    let told = c.in_ok-line_of_message_fault-in-Err.ensures in
    no_message c.in-Err.fault c.in_ok-line_of_message_fault-in-Err.field-0.items c.requires
    (λ m is. rw (c.in-Err.ensures.read_back m is) at told) c.in-Err.ensures.refused told
