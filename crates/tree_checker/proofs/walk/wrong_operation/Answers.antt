use Rattle.std.proofs.Common.{◌≡◌, ◌≢◌, inl, inr, ℕ, ◌+◌, ◌<◌, ◌≤◌, true, false, List, [], ◌∷◌, ◌++◌, length, drop, reverse, Some, refl, sym, ap, ◌∙◌, subst, arith}
use Rattle.std.proofs.lemmas.Bool.{false≢true}
use Rattle.std.proofs.lemmas.List.{length-drop, drop_all}
use Rattle.std.proofs.lemmas.List.Elements.{All-pop}
use Rattle.choice_prices.specs.Pricing.{ticks_of}
use Rattle.price_trees.specs.Prices.{Choice}
use Rattle.tree_certificate.specs.declared.parts.Operation.{Operation}
use Rattle.tree_certificate.specs.declared.parts.Operation.TheVariants.{Leaf}
use Rattle.tree_checker.specs.TreeReading.{IsOpenAs, Left, Reading}
use Rattle.tree_checker.specs.GoodTrees.{to_refute}
use Rattle.tree_checker.specs.Steps.{prices_listed, StandsFor}
use Rattle.tree_checker.proofs.WalkLemmas.{walk-missing, walk-wrong, walk-more, walk-done}
use Rattle.tree_checker.proofs.walk.wrong_operation.Goals.{then-at-operations-2, else-at-operations-2}
use Rattle.tree_checker.proofs.walk.wrong_operation.Goals as goal

-- the operations from a place on are as many as there are after it
left-over : (operations : List Operation) (at : ℕ) → at ≤ length operations → at + length (drop at operations) ≡ length operations
left-over operations at within = omega (arith, within, length-drop at operations)

some-over : (operations : List Operation) (at : ℕ) → at < length operations → drop at operations ≢ []
some-over operations at within none = omega (arith, within, length-drop at operations, ap length none)

none-left : (items : List Choice) (n : ℕ) → n ≡ length items → (0 < n → false ≡ true) → items ≡ []
none-left [] n is some = refl
none-left (choice ∷ items) n is some = absurd (false≢true (some (omega (arith, is))))

pub returns-then-at-operations-clause-fails : goal.returns-then-at-operations-clause-fails
returns-then-at-operations-clause-fails c =
    let e = c.args.evidence.now in
    let ticks = ticks_of c.args.ticks in
    let operations = c.args.operations.now in
    record {
      rest = [];
      stops = inl (walk-missing e.task.now ticks (prices_listed e) (to_refute ticks c.args.choice) operations c.loop-choice.pending.items c.pop.new.self.items c.in-Some.choice c.loop-choice.at
          c.loop-choice.invariant c.in-Some.ensures.items (omega (arith, c.if-at-operations.true)));
      place = omega (arith, c.if-at-operations.true);
    }

pub returns-then-is_wrong-clause-fails : goal.returns-then-is_wrong-clause-fails
returns-then-is_wrong-clause-fails c =
    let e = c.args.evidence.now in
    let ticks = ticks_of c.args.ticks in
    let operations = c.args.operations.now in
    let within : c.loop-choice.at < length operations = omega (arith, c.loop-choice.invariant.within, c.if-at-operations.false) in
    record {
      rest = drop c.loop-choice.at operations;
      stops = inl (walk-wrong e.task.now ticks (prices_listed e) (to_refute ticks c.args.choice) operations c.loop-choice.pending.items c.pop.new.self.items c.in-Some.choice c.loop-choice.at (Leaf 0)
          c.loop-choice.invariant c.in-Some.ensures.items within (c.left_after-left.ensures.0 (c.is_wrong.ensures.0 c.if-is_wrong.true)));
      place = left-over operations c.loop-choice.at c.loop-choice.invariant.within;
    }

pub push_left-requires-clause-opens : goal.push_left-requires-clause-opens
push_left-requires-clause-opens c =
    let t = c.args.evidence.now.task.now in
    (All-pop (λ x. IsOpenAs t x x) c.loop-choice.pending.items c.pop.new.self.items (Some c.in-Some.choice) c.in-Some.ensures.items c.loop-choice.invariant.opens).0

pub loop-choice-preserved : goal.loop-choice-preserved
loop-choice-preserved c =
    let e = c.args.evidence.now in
    let ticks = ticks_of c.args.ticks in
    let operations = c.args.operations.now in
    let rest = c.pop.new.self.items in
    let within : c.loop-choice.at < length operations = omega (arith, c.loop-choice.invariant.within, c.if-at-operations.false) in
    let leaves = c.left_after-left.ensures.1 (λ wrong. false≢true (sym c.if-is_wrong.false ∙ c.is_wrong.ensures.1 wrong)) in
    walk-more e.task.now ticks (prices_listed e) (to_refute ticks c.args.choice) operations c.loop-choice.pending.items rest c.push_left.new.pending.items c.in-Some.choice c.loop-choice.at (Leaf 0)
    c.loop-choice.invariant c.in-Some.ensures.items within leaves.0 c.in_ok-push_left.ensures.opens
    (subst (λ xs. StandsFor e.task.now ticks (prices_listed e) c.push_left.new.pending.items (xs ++ reverse rest)) (sym leaves.1)
    (c.in_ok-push_left.ensures.stands ticks (prices_listed e)))

pub returns-clause-holds : goal.returns-clause-holds
returns-clause-holds c =
    let e = c.args.evidence.now in
    let ticks = ticks_of c.args.ticks in
    let operations = c.args.operations.now in
    let start = to_refute ticks c.args.choice in
    elim c.if-at-operations-2.branch [
      | then-at-operations-2 w ↦ rw w.result-is tt
      | else-at-operations-2 w ↦ rw w.result-is
          (subst (λ over. Reading e.task.now ticks (prices_listed e) start operations (Left over))
          (drop_all c.loop-choice.at operations (omega (arith, w.if-at-operations-2.false)))
          (walk-done e.task.now ticks (prices_listed e) start operations c.loop-choice.pending.items c.loop-choice.at c.loop-choice.invariant (none-left c.loop-choice.pending.items c.loop-choice.pending.len (omega (arith, c.loop-choice.pending.ok.0)) c.in_default.ensures.variant.1)))
    ]

pub returns-clause-fails : goal.returns-clause-fails
returns-clause-fails c =
    let e = c.args.evidence.now in
    let ticks = ticks_of c.args.ticks in
    let operations = c.args.operations.now in
    let start = to_refute ticks c.args.choice in
    let at = c.loop-choice.at in
    elim c.if-at-operations-2.branch [
      | then-at-operations-2 w ↦ rw w.result-is record {
        rest = drop at operations;
        stops = inr (
          walk-done e.task.now ticks (prices_listed e) start operations c.loop-choice.pending.items at c.loop-choice.invariant (none-left c.loop-choice.pending.items c.loop-choice.pending.len (omega (arith, c.loop-choice.pending.ok.0)) c.in_default.ensures.variant.1),
          some-over operations at w.if-at-operations-2.true,
        );
        place = left-over operations at c.loop-choice.invariant.within;
      }
      | else-at-operations-2 w ↦ rw w.result-is tt
    ]
