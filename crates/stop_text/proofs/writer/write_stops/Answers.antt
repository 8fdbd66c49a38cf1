use Rattle.std.proofs.Common.{◌≡◌, ◌++◌, ◌∷◌, [], List, ℕ, map, All, codes, ap, ap₂, subst, ◌∙◌}
use Rattle.hold_limits.specs.Layout.{Layout}
use Rattle.hold_limits.specs.Problem.{Problem}
use Rattle.text_lines.specs.Lines.{text_of}
use Rattle.text_lines.specs.WordRuns.{run_text}
use Rattle.problem_text.specs.TaskText.{IsSpelled}
use Rattle.problem_text.proofs.WriterLemmas.{more_lines}
use Rattle.stop_text.specs.StopFile.{leave_line, behind_line}
use Rattle.stop_text.specs.Writing.{leaves_said, names_of}
use Rattle.stop_text.proofs.WrittenFile.{task_text, leave_lines, pair_lines, same_load, file_written}
use Rattle.stop_text.proofs.writer.write_stops.Goals as goal

pub returns-in_err-text-clause-same : goal.returns-in_err-text-clause-same
returns-in_err-text-clause-same c = same_load c.args.t.now c.first-first.result.now c.first-first.ensures.value c.hold-hold.ensures.lawful c.first-first.ensures.lawful

pub returns-in_err-push_leaves-clause-same : goal.returns-in_err-push_leaves-clause-same
returns-in_err-push_leaves-clause-same c = same_load c.args.t.now c.first-first.result.now c.first-first.ensures.value c.hold-hold.ensures.lawful c.first-first.ensures.lawful

pub returns-in_err-write_lines-clause-same : goal.returns-in_err-write_lines-clause-same
returns-in_err-write_lines-clause-same c = same_load c.args.t.now c.first-first.result.now c.first-first.ensures.value c.hold-hold.ensures.lawful c.first-first.ensures.lawful

pub returns-in_err-push_tasks-clause-same : goal.returns-in_err-push_tasks-clause-same
returns-in_err-push_tasks-clause-same c = same_load c.args.t.now c.first-first.result.now c.first-first.ensures.value c.hold-hold.ensures.lawful c.first-first.ensures.lawful

pub returns-clause-written : goal.returns-clause-written
returns-clause-written c =
    let t = c.args.t.now in
    let first = c.first-first.result.now in
    let start : List (List ℕ) = codes "STOPS 1" ∷ [] in
    let header : c.text.new.self ≡ text_of start = c.in_ok-text.ensures.added ∙ ap (λ old. old ++ text_of start) c.new-out.ensures in
    let leaves = more_lines start (leave_lines t first) c.text.new.self c.push_leaves.new.out header
    (c.in_ok-push_leaves.ensures ∙ ap₂ (λ items numbers. c.text.new.self ++ text_of (map leave_line (leaves_said items numbers))) c.items.ensures.value c.leaves.ensures.value) in
    let pairs = more_lines (start ++ leave_lines t first) (pair_lines t first) c.push_leaves.new.out c.write_lines.new.out leaves
    (c.in_ok-write_lines.ensures.added ∙ ap₂ (λ (h : Layout) (behind : List (ℕ × ℕ)). c.push_leaves.new.out ++ text_of (map (λ pair. behind_line (names_of h.positions pair)) behind)) c.hold-hold.ensures.value c.behind.ensures.value) in
    let tasks = c.in_ok-push_tasks.ensures.added ∙ ap (λ (sectors : List Problem). c.write_lines.new.out ++ run_text task_text sectors) c.sectors.ensures.value in
    file_written t first c.finish.result.items c.first-first.ensures.value c.first-first.ensures.lawful (subst (All IsSpelled) c.sectors.ensures.value c.in_ok-push_tasks.ensures.spelled)
    (c.finish.ensures ∙ tasks ∙ ap (λ before. before ++ run_text task_text t.sectors) pairs)

pub returns-clause-same : goal.returns-clause-same
returns-clause-same c = same_load c.args.t.now c.first-first.result.now c.first-first.ensures.value c.hold-hold.ensures.lawful c.first-first.ensures.lawful
