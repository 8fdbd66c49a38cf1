use Rattle.plan_answers.specs.NearReply.IsCertificateRefusal.{no_certificate}
use Rattle.plan_commands.proofs.files.certificate_of.Goals as goal

pub returns-in_ok-line_of_certificate_fault-in-Err-clause-refused : goal.returns-in_ok-line_of_certificate_fault-in-Err-clause-refused
returns-in_ok-line_of_certificate_fault-in-Err-clause-refused c =
    no_certificate c.in-Err.fault c.in_ok-line_of_certificate_fault-in-Err.field-0.items c.requires c.in-Err.ensures.refused c.in_ok-line_of_certificate_fault-in-Err.ensures
