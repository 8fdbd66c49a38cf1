use Rattle.std.proofs.Common.{◌∷◌, [], ap, ap₂, sym}
use Rattle.std.specs.Prelude.{codes}
use Rattle.plan_commands.proofs.ArgumentLemmas.{same_bytes}
use Rattle.plan_commands.specs.Arguments.AskFor.{place_usually, best_usually, why_usually, priced_usually, stops_usually, generate_load}
use Rattle.plan_commands.proofs.arguments.with_one_operand.Goals as goal

pub returns-then-eq-clause-some : goal.returns-then-eq-clause-some
returns-then-eq-clause-some c = place_usually c.args.operand.now (ap (λ name. name ∷ c.args.operand.now ∷ []) (same_bytes c.args.name.now (codes "place") (sym c.if-eq.ensures)))

pub returns-then-eq-2-clause-some : goal.returns-then-eq-2-clause-some
returns-then-eq-2-clause-some c = best_usually c.args.operand.now (ap (λ name. name ∷ c.args.operand.now ∷ []) (same_bytes c.args.name.now (codes "best") (sym c.if-eq-2.ensures)))

pub returns-then-eq-3-clause-some : goal.returns-then-eq-3-clause-some
returns-then-eq-3-clause-some c = why_usually c.args.operand.now (ap (λ name. name ∷ c.args.operand.now ∷ []) (same_bytes c.args.name.now (codes "why") (sym c.if-eq-3.ensures)))

pub returns-then-eq-4-clause-some : goal.returns-then-eq-4-clause-some
returns-then-eq-4-clause-some c = priced_usually c.args.operand.now (ap (λ name. name ∷ c.args.operand.now ∷ []) (same_bytes c.args.name.now (codes "priced") (sym c.if-eq-4.ensures)))

pub returns-then-eq-5-clause-some : goal.returns-then-eq-5-clause-some
returns-then-eq-5-clause-some c = stops_usually c.args.operand.now (ap (λ name. name ∷ c.args.operand.now ∷ []) (same_bytes c.args.name.now (codes "stops") (sym c.if-eq-5.ensures)))

pub returns-then-eq-6-clause-some : goal.returns-then-eq-6-clause-some
returns-then-eq-6-clause-some c =
    generate_load c.in_ok-number.number (ap₂ (λ name operand. name ∷ operand ∷ []) (same_bytes c.args.name.now (codes "gen") (sym c.if-eq-6.ensures)) c.in_ok-number.ensures.some.0) c.in_ok-number.ensures.some.1
