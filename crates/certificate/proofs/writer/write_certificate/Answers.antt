use Rattle.std.proofs.Common.{◌++◌, ap, ◌∙◌}
use Rattle.hold_limits.proofs.LawfulBounds.{hold-bounds}
use Rattle.certificate.specs.CertificateText.{certificate_text}
use Rattle.certificate.proofs.WriterLemmas.{written_spells}
use Rattle.certificate.proofs.writer.write_certificate.Goals as goal

pub returns-clause-written : goal.returns-clause-written
returns-clause-written c = c.finish.ensures ∙ c.in_ok-push_certificate.ensures.written ∙ ap (λ t. t ++ certificate_text c.args.task.now.hold.positions c.args.certificate.now) c.new-out.ensures

pub returns-clause-read_back : goal.returns-clause-read_back
returns-clause-read_back c =
    λ number few before earlier.
    let ps = c.args.task.now.hold.positions in
    let differ = (hold-bounds c.args.task.now.hold c.hold-hold.ensures.lawful.hold).names in
    written_spells ps differ c.args.certificate.now c.requires.claim c.requires.cuts c.in_ok-push_certificate.ensures.short_claim c.in_ok-push_certificate.ensures.short_cuts number few
    c.finish.result.items (c.finish.ensures ∙ c.in_ok-push_certificate.ensures.written ∙ ap (λ t. t ++ certificate_text ps c.args.certificate.now) c.new-out.ensures) before earlier
