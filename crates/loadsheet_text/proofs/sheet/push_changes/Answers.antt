use Rattle.text_lines.proofs.GrowingTexts.{lines_grow_by}
use Rattle.loadsheet_text.specs.SheetText.{change_line}
use Rattle.loadsheet_text.proofs.sheet.push_changes.Goals as goal

pub loop-change-preserved : goal.loop-change-preserved
loop-change-preserved c =
    lines_grow_by change_line c.args.changes.now c.loop-change.change-index c.change-item.result c.args.out.now c.loop-change.out _
    c.loop-change-test.true c.change-item.is c.loop-change.invariant c.in_ok-push_change.ensures
