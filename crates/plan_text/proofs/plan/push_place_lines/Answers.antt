use Rattle.std.proofs.Common.{◌≡◌, ◌∷◌, [], ◌++◌, List, get_or, take, ap, ap₂, sym, ◌∙◌, append_assoc, arith}
use Rattle.std.proofs.lemmas.List.{take_all}
use Rattle.std.specs.Prelude.{codes}
use Rattle.hold_limits.specs.Layout.{Layout, name_at}
use Rattle.hold_limits.specs.Placement.{Placed, placed}
use Rattle.hold_limits.proofs.PlacedLemmas.{length-placed}
use Rattle.text_lines.specs.Lines.{text_of}
use Rattle.plan_text.specs.PlanText.{one_line, place_line, place_lines}
use Rattle.plan_text.proofs.TextLemmas.{place_lines-more}
use Rattle.plan_text.proofs.plan.push_place_lines.Goals as goal

pub loop-rank-preserved : goal.loop-rank-preserved
loop-rank-preserved c =
    let t = c.args.task.now in
    let path = c.args.path.now in
    let rank = c.loop-rank.rank in
    let q = get_or path rank 0 in
    let item = c.at_rank-item.result.now in
    let name = c.name_at.ensures ∙ ap (λ (h : Layout). name_at h.positions q) c.hold.ensures.value in
    let line : one_line (codes "place" ∷ c.bytes.result.now ∷ c.name_at.result.now ∷ []) ≡ text_of (place_line t.hold (item, q) ∷ []) =
    ap₂ (λ a b. one_line (codes "place" ∷ a ∷ b ∷ [])) c.bytes.ensures.value name in
    let more = place_lines-more t path rank item c.requires c.loop-rank-test.true c.at_rank-item.ensures.value in
    c.in_ok-push_place_line.ensures
    ∙ ap₂ (λ a b. a ++ b) c.loop-rank.invariant line
    ∙ append_assoc c.args.out.now (text_of (place_lines t (take rank (placed t path)))) (text_of (place_line t.hold (item, q) ∷ []))
    ∙ ap (λ lines. c.args.out.now ++ lines) (sym more)

pub returns : goal.returns
returns c =
    let t = c.args.task.now in
    let path = c.args.path.now in
    let all : take c.loop-rank.rank (placed t path) ≡ placed t path = take_all c.loop-rank.rank (placed t path) (omega (arith, length-placed t path c.requires)) in
    c.loop-rank.invariant ∙ ap (λ (ps : List Placed). c.args.out.now ++ text_of (place_lines t ps)) all
