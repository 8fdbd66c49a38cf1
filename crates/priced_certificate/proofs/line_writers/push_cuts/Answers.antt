use Rattle.priced_certificate.proofs.WriterLemmas.{one_more_cut}
use Rattle.priced_certificate.proofs.line_writers.push_cuts.Goals as goal

pub loop-cut-preserved : goal.loop-cut-preserved
loop-cut-preserved c =
    one_more_cut c.args.hold.now.positions c.args.cuts.now c.loop-cut.cut-index c.cut-item.result c.args.out.now c.loop-cut.out _
    c.loop-cut-test.true c.cut-item.is c.loop-cut.invariant c.in_ok-push_cut.ensures.written c.in_ok-push_cut.ensures.short
