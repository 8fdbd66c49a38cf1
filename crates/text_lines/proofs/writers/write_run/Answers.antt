use Rattle.text_lines.proofs.GrowingTexts.{run_grows_by}
use Rattle.text_lines.proofs.writers.write_run.Goals as goal

pub loop-entry-preserved : goal.loop-entry-preserved
loop-entry-preserved g c =
    run_grows_by (g.W.EntryWriter.text c.args.writer.now) c.args.entries.now c.loop-entry.entry-index c.entry-item.result c.args.out.now c.loop-entry.out _
    c.loop-entry-test.true c.entry-item.is c.loop-entry.invariant c.in_ok-write.ensures.added
