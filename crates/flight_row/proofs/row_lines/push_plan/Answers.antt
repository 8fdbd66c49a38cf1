use Rattle.std.proofs.Common.{◌≤◌, ℕ, List, length, subst}
use Rattle.std.proofs.lemmas.Result.{on_ok_weaker}
use Rattle.flight_row.proofs.RowWriterLemmas.{plan_written}
use Rattle.flight_row.proofs.row_lines.push_plan.Goals as goal

pub returns-clause-lines : goal.returns-clause-lines
returns-clause-lines c =
    on_ok_weaker c.end_line.result
    (λ last. plan_written c.args.hold.now.positions c.args.s.now c.in-Some.path c.as_slice.result.now c.args.text.now c.text.new.self c.write_run.new.out c.end_line.new.self
    c.in-Some.is c.as_slice.ensures.value c.in_ok-text.ensures.added c.in_ok-write_run.ensures last)
    c.end_line.ensures.added

pub returns-clause-few : goal.returns-clause-few
returns-clause-few c =
    on_ok_weaker c.end_line.result
    (λ last. rw c.in-Some.is (subst (λ (numbers : List ℕ). length numbers ≤ 60) c.as_slice.ensures.value c.as_slice.ensures.fits))
    c.end_line.ensures.added
