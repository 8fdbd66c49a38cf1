use Rattle.std.proofs.Common.{rules}
use Rattle.priced_certificate.proofs.WriterLemmas.{text_built}
use Rattle.priced_certificate.proofs.writer.push_priced_certificate.Goals as goal

pub returns-clause-written : goal.returns-clause-written
returns-clause-written c =
    let ps = c.args.task.now.hold.positions in
    text_built ps c.args.certificate.now c.args.out.now c.text.new.self c.push_claim.new.out c.push_cuts.new.out c.push_expanded.new.out c.text-2.new.self
    (search rules) (search rules) (search rules) c.in_ok-push_expanded.ensures c.in_ok-text-2.ensures.added
