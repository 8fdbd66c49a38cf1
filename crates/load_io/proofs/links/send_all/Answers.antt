-- One more write.
use Rattle.std.proofs.Common.{◌∙◌}
use Rattle.load_io.proofs.SinkLemmas.{written_more}
use Rattle.load_io.proofs.links.send_all.Goals as goal

pub loop-at-preserved : goal.loop-at-preserved
loop-at-preserved g c = (
  written_more _ _ _ c.args.text.now c.loop-at.at c.in_ok-at.field-0 _ _ _
      c.loop-at.invariant.0 c.in_ok-at.ensures.within c.in_ok-at.ensures.appended c.in_ok-at.ensures.uncounted,
  c.in_ok-at.ensures.input_kept ∙ c.loop-at.invariant.1,
  c.in_ok-at.ensures.reads_kept ∙ c.loop-at.invariant.2,
  c.in_ok-at.ensures.same_references ∙ c.loop-at.invariant.3,
)
