use Rattle.std.proofs.Common.{◌∙◌, ◌+◌, codes}
use Rattle.text_lines.specs.WordRuns.{run_text}
use Rattle.plan_reasons.specs.WhyText.{unfit_text, short_text, without_text, unknown_in, unknown_text}
use Rattle.plan_reasons.proofs.Pieces.{five_pieces}
use Rattle.plan_reasons.proofs.text.write_reasons.Goals as goal

pub returns : goal.returns
returns c =
    let t = c.args.task.now in
    let reasons = c.args.reasons.now in
    c.finish.ensures
    ∙ five_pieces (run_text (unfit_text t) t.items) (run_text (short_text t) t.items) (run_text (without_text t) reasons.tried.items)
    (unknown_text (unknown_in reasons + c.args.others)) (codes "END\n") _ _ _ _ _ _ c.new-out.ensures
    (rw c.items.ensures.value at c.in_ok-write_run.ensures)
    (rw c.items-2.ensures.value at c.in_ok-write_run-2.ensures)
    (rw c.as_slice.ensures.value at c.in_ok-write_run-3.ensures)
    (rw c.unknown_in.ensures at c.in_ok-push_unknown.ensures)
    c.in_ok-text.ensures.added
