use Rattle.std.proofs.Common.{◌≡◌, ◌++◌, ◌∷◌, [], drop, length, ap, sym, ◌∙◌, arith}
use Rattle.std.specs.Prelude.{codes}
use Rattle.hold_limits.specs.Problem.{Problem}
use Rattle.hold_limits.specs.Placement.{placed}
use Rattle.text_lines.specs.Lines.{text_of}
use Rattle.plan_text.specs.PlanText.{one_line, place_lines, balance_lines}
use Rattle.plan_text.proofs.TextLemmas.{and-then}
use Rattle.stop_tasks.specs.StopPaths.{last_sectors}
use Rattle.stop_answer.specs.AnswerText.{sector_lines}
use Rattle.stop_answer.proofs.AnswerLemmas.{sound-first, sound-parts, stop_plan_text-is}
use Rattle.stop_answer.proofs.answer_text.plan_of.Goals as goal

pub push_place_lines-requires : goal.push_place_lines-requires
push_place_lines-requires c =
    let sound = sound-first c.args.t.now c.first-first.result.now c.args.path.now.items c.first-first.ensures.lawful c.first-first.ensures.value c.requires in
    omega (arith, ap length c.as_slice.ensures.value, sound.short)

pub push_balance-requires : goal.push_balance-requires
push_balance-requires c = sound-first c.args.t.now c.first-first.result.now c.args.path.now.items c.first-first.ensures.lawful c.first-first.ensures.value c.requires

pub push_sector_lines-requires-clause-sound : goal.push_sector_lines-requires-clause-sound
push_sector_lines-requires-clause-sound c =
    let first : Problem = c.first-first.result.now in
    let last : c.as_slice-2.result.now ≡ last_sectors c.args.t.now first = c.as_slice-2.ensures.value ∙ c.last_sectors-last.ensures first c.first-first.ensures.value in
    rw (c.sectors.ensures.value, last, c.as_slice-3.ensures.value) (sound-parts c.args.t.now first c.args.path.now.items c.first-first.ensures.value c.requires)

pub returns : goal.returns
returns c =
    let t = c.args.t.now in
    let path = c.args.path.now.items in
    let first : Problem = c.first-first.result.now in
    let last : c.as_slice-2.result.now ≡ last_sectors t first = c.as_slice-2.ensures.value ∙ c.last_sectors-last.ensures first c.first-first.ensures.value in
    let plan = one_line (codes "PLAN" ∷ []) in
    let places = text_of (place_lines first (placed first path)) in
    let balance = text_of (balance_lines first path) in
    let sectors = text_of (sector_lines (last_sectors t first) path 2 (drop 1 t.sectors)) in
    let end = one_line (codes "END" ∷ []) in
    let with_plan = c.in_ok-text.ensures.added ∙ ap (λ text. text ++ plan) c.new-out.ensures in
    let with_places = and-then [] plan places _ _ with_plan
    (c.in_ok-push_place_lines.ensures ∙ ap (λ ns. c.text.new.self ++ text_of (place_lines first (placed first ns))) c.as_slice.ensures.value) in
    let with_balance = and-then [] (plan ++ places) balance _ _ with_places c.in_ok-push_balance.ensures in
    let with_sectors = and-then [] (plan ++ places ++ balance) sectors _ _ with_balance
    (rw (last, c.as_slice-3.ensures.value, c.sectors.ensures.value) at c.in_ok-push_sector_lines.ensures) in
    let with_end = and-then [] (plan ++ places ++ balance ++ sectors) end _ _ with_sectors c.in_ok-text-2.ensures.added in
    c.finish.ensures ∙ with_end ∙ sym (stop_plan_text-is t.sectors t.leaves path first c.first-first.ensures.value)
