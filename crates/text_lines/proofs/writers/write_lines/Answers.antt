use Rattle.std.proofs.Common.{◌++◌, ◌∷◌, [], ◌∙◌, ap}
use Rattle.std.proofs.lemmas.List.{append_assoc}
use Rattle.text_lines.proofs.GrowingTexts.{lines_grow_of}
use Rattle.text_lines.proofs.writers.write_lines.Goals as goal

pub loop-entry-preserved : goal.loop-entry-preserved
loop-entry-preserved g c =
    let text = g.W.EntryWriter.text c.args.writer.now in
    let entry = c.entry-item.result in
    lines_grow_of (g.W.EntryWriter.spelled c.args.writer.now) text c.args.entries.now c.loop-entry.entry-index entry c.args.out.now c.loop-entry.out _
    c.loop-entry-test.true c.entry-item.is c.loop-entry.invariant
    (c.in_ok-end_line.ensures.added ∙ ap (λ t. t ++ 10 ∷ []) c.in_ok-write.ensures.added ∙ append_assoc c.loop-entry.out (text entry) (10 ∷ []))
    c.in_ok-write.ensures.spelled
