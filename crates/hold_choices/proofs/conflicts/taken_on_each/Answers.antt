use Rattle.std.proofs.Common.{◌&&◌, ◌||◌, ◌==◌, ℕ, Bool, List, take, get_or, ap, ap₂, sym, ◌∙◌}
use Rattle.std.specs.List.{list_any}
use Rattle.std.proofs.lemmas.List.{take_all}
use Rattle.std.proofs.lemmas.List.Folds.{list_any_more}
use Rattle.hold_choices.proofs.NumberLemmas.{eq-swap}
use Rattle.hold_choices.proofs.ConflictLemmas.{pair-more, or-false, pair-known}
use Rattle.hold_choices.proofs.conflicts.taken_on_each.Goals as goal

pub add_at-requires-clause-place : goal.add_at-requires-clause-place
add_at-requires-clause-place c = (pair-known c.args.hold.now c.excludes-one-items.result.now c.loop-one.one-index c.excludes-one-items.ensures.value c.excludes-one-items.ensures.lawful c.loop-one-test.true).0

pub add_at-requires-clause-number : goal.add_at-requires-clause-number
add_at-requires-clause-number c = (pair-known c.args.hold.now c.excludes-one-items.result.now c.loop-one.one-index c.excludes-one-items.ensures.value c.excludes-one-items.ensures.lawful c.loop-one-test.true).1

pub add_at-requires-in-loop-one-clause-place : goal.add_at-requires-in-loop-one-clause-place
add_at-requires-in-loop-one-clause-place c = (pair-known c.args.hold.now c.excludes-one-items.result.now c.loop-one.one-index c.excludes-one-items.ensures.value c.excludes-one-items.ensures.lawful c.loop-one-test.true).1

pub add_at-requires-in-loop-one-clause-number : goal.add_at-requires-in-loop-one-clause-number
add_at-requires-in-loop-one-clause-number c = (pair-known c.args.hold.now c.excludes-one-items.result.now c.loop-one.one-index c.excludes-one-items.ensures.value c.excludes-one-items.ensures.lawful c.loop-one-test.true).0

pub loop-one-init : goal.loop-one-init
loop-one-init c = λ q p d within. c.each_alone-taken.ensures q p d within ∙ or-false (p == q)

pub loop-one-preserved : goal.loop-one-preserved
loop-one-preserved c = λ q p d within.
    let pairs : List (ℕ × ℕ) = c.excludes-one-items.result.now in
    let k : ℕ = c.loop-one.one-index in
    let pair : ℕ × ℕ = get_or pairs k (0, 0) in
    let test : ℕ × ℕ → Bool = λ pair. ((pair.0 == q) && (pair.1 == p)) || ((pair.0 == p) && (pair.1 == q)) in
    c.add_at-in-loop-one.ensures q p d within
    ∙ ap (λ b. b || ((pair.1 == q) && (pair.0 == p))) (c.add_at.ensures q p d within ∙ ap (λ b. b || ((pair.0 == q) && (pair.1 == p))) (c.loop-one.invariant q p d within))
    ∙ pair-more (p == q) (list_any test (take k pairs)) (pair.0 == q) (pair.1 == p) (pair.1 == q) (pair.0 == p)
    ∙ sym (ap (λ b. (p == q) || b) (list_any_more test pairs k (0, 0) c.loop-one-test.true))

pub returns : goal.returns
returns c = λ q p d within below.
    let pairs : List (ℕ × ℕ) = c.excludes-one-items.result.now in
    let test : ℕ × ℕ → Bool = λ pair. ((pair.0 == q) && (pair.1 == p)) || ((pair.0 == p) && (pair.1 == q)) in
    c.loop-one.invariant q p d within ∙ ap₂ ◌||◌ (eq-swap p q) (ap (list_any test) (take_all c.loop-one.one-index pairs c.loop-one-test.false ∙ c.excludes-one-items.ensures.value))
