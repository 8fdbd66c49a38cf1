use Rattle.std.proofs.Common.{◌∷◌, [], ap, ap₂, sym}
use Rattle.std.specs.Prelude.{codes}
use Rattle.plan_commands.proofs.ArgumentLemmas.{same_bytes}
use Rattle.plan_commands.specs.Arguments.AskFor.{place_within, best_within, why_within, priced_within, stops_within, check_certificate, check_best, check_prices}
use Rattle.plan_commands.proofs.arguments.with_two_operands.Goals as goal

pub returns-then-eq-clause-some : goal.returns-then-eq-clause-some
returns-then-eq-clause-some c =
    let budget = c.in_ok-budget.ensures.some in
    place_within c.args.task.now c.in_ok-budget.budget (ap₂ (λ name other. name ∷ c.args.task.now ∷ other ∷ []) (same_bytes c.args.name.now (codes "place") (sym c.if-eq.ensures)) budget.0) budget.1 budget.2

pub returns-then-eq-2-clause-some : goal.returns-then-eq-2-clause-some
returns-then-eq-2-clause-some c =
    let looks = c.in_ok-looks.ensures.some in
    best_within c.args.task.now c.in_ok-looks.looks (ap₂ (λ name other. name ∷ c.args.task.now ∷ other ∷ []) (same_bytes c.args.name.now (codes "best") (sym c.if-eq-2.ensures)) looks.0) looks.1 looks.2

pub returns-then-eq-3-clause-some : goal.returns-then-eq-3-clause-some
returns-then-eq-3-clause-some c =
    let looks = c.in_ok-looks-2.ensures.some in
    why_within c.args.task.now c.in_ok-looks-2.looks (ap₂ (λ name other. name ∷ c.args.task.now ∷ other ∷ []) (same_bytes c.args.name.now (codes "why") (sym c.if-eq-3.ensures)) looks.0) looks.1 looks.2

pub returns-then-eq-4-clause-some : goal.returns-then-eq-4-clause-some
returns-then-eq-4-clause-some c =
    let budget = c.in_ok-budget-2.ensures.some in
    priced_within c.args.task.now c.in_ok-budget-2.budget (ap₂ (λ name other. name ∷ c.args.task.now ∷ other ∷ []) (same_bytes c.args.name.now (codes "priced") (sym c.if-eq-4.ensures)) budget.0) budget.1 budget.2

pub returns-then-eq-5-clause-some : goal.returns-then-eq-5-clause-some
returns-then-eq-5-clause-some c =
    let budget = c.in_ok-budget-3.ensures.some in
    stops_within c.args.task.now c.in_ok-budget-3.budget (ap₂ (λ name other. name ∷ c.args.task.now ∷ other ∷ []) (same_bytes c.args.name.now (codes "stops") (sym c.if-eq-5.ensures)) budget.0) budget.1 budget.2

pub returns-then-eq-6-clause-some : goal.returns-then-eq-6-clause-some
returns-then-eq-6-clause-some c =
    check_certificate c.args.task.now c.args.other.now (ap (λ name. name ∷ c.args.task.now ∷ c.args.other.now ∷ []) (same_bytes c.args.name.now (codes "check") (sym c.if-eq-6.ensures)))

pub returns-then-eq-7-clause-some : goal.returns-then-eq-7-clause-some
returns-then-eq-7-clause-some c =
    check_best c.args.task.now c.args.other.now (ap (λ name. name ∷ c.args.task.now ∷ c.args.other.now ∷ []) (same_bytes c.args.name.now (codes "bestcheck") (sym c.if-eq-7.ensures)))

pub returns-then-eq-8-clause-some : goal.returns-then-eq-8-clause-some
returns-then-eq-8-clause-some c =
    check_prices c.args.task.now c.args.other.now (ap (λ name. name ∷ c.args.task.now ∷ c.args.other.now ∷ []) (same_bytes c.args.name.now (codes "pricedcheck") (sym c.if-eq-8.ensures)))
