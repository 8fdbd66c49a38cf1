use Rattle.std.proofs.Common.{◌++◌, ◌∷◌, [], ℕ, ℤ, List, ap, sym, ◌∙◌}
use Rattle.std.specs.Prelude.{codes, pos}
use Rattle.mass_units.specs.Spelling.{index_text}
use Rattle.hold_limits.specs.Placement.{take_off_index, distance}
use Rattle.plan_text.specs.PlanText.{one_line}
use Rattle.plan_text.proofs.TextLemmas.{balance_text-is, and-then}
use Rattle.plan_text.proofs.plan.push_balance.Goals as goal

index_line : List ℕ → ℤ → List ℕ
index_line word z = one_line (word ∷ index_text z ∷ [])

pub returns : goal.returns
unfolding index_line
returns c =
    let t = c.args.task.now in
    let path = c.args.path.now.items in
    let old = c.args.out.now in
    let worth = c.outcome-distance.ensures in
    let index = index_line (codes "index") (take_off_index t path) in
    let far = index_line (codes "distance") (pos (distance t path)) in
    let with_index = c.in_ok-push_index_line.ensures ∙ ap (λ z. old ++ index_line (codes "index") z) worth.index in
    and-then old index far _ _ with_index
    (c.in_ok-push_index_line-2.ensures ∙ ap (λ z. c.push_index_line.new.out ++ index_line (codes "distance") z) (c.ticks_of.ensures ∙ ap (λ n. pos n) worth.distance))
    ∙ ap (λ text. old ++ text) (sym (balance_text-is t path))
