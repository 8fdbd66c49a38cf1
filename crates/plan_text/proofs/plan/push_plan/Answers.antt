use Rattle.std.proofs.Common.{◌++◌, ◌∷◌, [], length, arith, ap, sym, ◌∙◌}
use Rattle.std.specs.Prelude.{codes}
use Rattle.hold_limits.specs.Placement.{placed}
use Rattle.text_lines.specs.Lines.{text_of}
use Rattle.plan_text.specs.PlanText.{one_line, place_lines, balance_lines, difference_lines}
use Rattle.plan_text.proofs.TextLemmas.{plan_text-is, and-then}
use Rattle.plan_text.proofs.plan.push_plan.Goals as goal

pub push_place_lines-requires : goal.push_place_lines-requires
push_place_lines-requires c = omega (arith, ap length c.as_slice.ensures.value, c.requires.short)

pub returns : goal.returns
returns c =
    let t = c.args.task.now in
    let path = c.args.path.now.items in
    let old = c.args.out.now in
    let plan = one_line (codes "PLAN" ∷ []) in
    let places = text_of (place_lines t (placed t path)) in
    let balance = text_of (balance_lines t path) in
    let difference = text_of (difference_lines t path) in
    let with_places = and-then old plan places _ _ c.in_ok-text.ensures.added
    (c.in_ok-push_place_lines.ensures ∙ ap (λ ns. c.text.new.self ++ text_of (place_lines t (placed t ns))) c.as_slice.ensures.value) in
    let with_balance = and-then old (plan ++ places) balance _ _ with_places c.in_ok-push_balance.ensures in
    and-then old (plan ++ places ++ balance) difference _ _ with_balance c.in_ok-push_difference.ensures
    ∙ ap (λ text. old ++ text) (sym (plan_text-is t path))
