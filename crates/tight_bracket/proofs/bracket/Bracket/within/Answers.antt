use Rattle.std.proofs.Common.{◌≡◌, ◌⊎◌, ⊎_elim, ◌≤◌, ℤ, ◌+ℤ◌, ◌-ℤ◌, pos, unsigned_abs, sym, subst, arith}
use Rattle.std.proofs.lemmas.Int.{ints}
use Rattle.hold_partial.specs.Placing.{Placing}
use Rattle.assignment_prices.specs.declared.end.End.TheVariants.{Low, High}
use Rattle.assignment_prices.specs.TightReach.{AllowsTightly}
use Rattle.tight_bracket.proofs.BracketLemmas.{allowed-by_way, sum-fits, difference-fits}
use Rattle.tight_bracket.proofs.bracket.Bracket.within.Goals as goal

-- what holds of both numbers holds of either
of-either : (P : ℤ → Type 0) (x one other : ℤ) → (x ≡ one) ⊎ (x ≡ other) → P one → P other → P x
of-either P x one other is first second = ⊎_elim (λ (here : x ≡ one). subst P (sym here) first) (λ (here : x ≡ other). subst P (sym here) second) is

minus-twice : (x y : ℤ) → x +ℤ (pos 0 -ℤ y) ≡ x -ℤ y
minus-twice x y = omega (arith, ints)

near-sum : (x y : ℤ) → unsigned_abs x ≤ 248000000000 → unsigned_abs y ≤ 2000000000000000 → unsigned_abs (x +ℤ y) ≤ 10000000000000000
near-sum x y near far = omega (arith, ints, near, far)

near-difference : (x y : ℤ) → unsigned_abs x ≤ 248000000000 → unsigned_abs y ≤ 2000000000000000 → unsigned_abs (x -ℤ y) ≤ 10000000000000000
near-difference x y near far = omega (arith, ints, near, far)

pub returns-clause-low : goal.returns-clause-low
returns-clause-low c =
    let drafts = c.self.invariant in
    let t = c.self.inside.task.now in
    let prefix = c.self.inside.prefix.items in
    let low = sum-fits c.self.inside.index c.in_ok-low.low drafts.small c.in_ok-low.ensures.bounded in
    let high = difference-fits c.self.inside.index c.in_ok-high.high drafts.small c.in_ok-high.ensures.bounded in
    let one : AllowsTightly t prefix (c.self.inside.index +ℤ c.in_ok-low.low) =
    subst (λ i. AllowsTightly t prefix (i +ℤ c.in_ok-low.low)) (sym drafts.so_far) (allowed-by_way t prefix Low c.self.inside.low drafts.low_end c.in_ok-low.low c.in_ok-low.ensures.way) in
    let other : AllowsTightly t prefix (c.self.inside.index -ℤ c.in_ok-high.high) =
    subst (AllowsTightly t prefix) (minus-twice c.self.inside.index c.in_ok-high.high)
    (subst (λ i. AllowsTightly t prefix (i +ℤ (pos 0 -ℤ c.in_ok-high.high))) (sym drafts.so_far) (allowed-by_way t prefix High c.self.inside.high drafts.high_end c.in_ok-high.high c.in_ok-high.ensures.way)) in
    subst (λ (p : Placing). AllowsTightly p.task p.prefix c.span_of.result.low) c.self.view_is
    (of-either (AllowsTightly t prefix) c.span_of.result.low _ _ (rw (low, high) at c.span_of.ensures.low) one other)

pub returns-clause-high : goal.returns-clause-high
returns-clause-high c =
    let drafts = c.self.invariant in
    let t = c.self.inside.task.now in
    let prefix = c.self.inside.prefix.items in
    let low = sum-fits c.self.inside.index c.in_ok-low.low drafts.small c.in_ok-low.ensures.bounded in
    let high = difference-fits c.self.inside.index c.in_ok-high.high drafts.small c.in_ok-high.ensures.bounded in
    let one : AllowsTightly t prefix (c.self.inside.index +ℤ c.in_ok-low.low) =
    subst (λ i. AllowsTightly t prefix (i +ℤ c.in_ok-low.low)) (sym drafts.so_far) (allowed-by_way t prefix Low c.self.inside.low drafts.low_end c.in_ok-low.low c.in_ok-low.ensures.way) in
    let other : AllowsTightly t prefix (c.self.inside.index -ℤ c.in_ok-high.high) =
    subst (AllowsTightly t prefix) (minus-twice c.self.inside.index c.in_ok-high.high)
    (subst (λ i. AllowsTightly t prefix (i +ℤ (pos 0 -ℤ c.in_ok-high.high))) (sym drafts.so_far) (allowed-by_way t prefix High c.self.inside.high drafts.high_end c.in_ok-high.high c.in_ok-high.ensures.way)) in
    subst (λ (p : Placing). AllowsTightly p.task p.prefix c.span_of.result.high) c.self.view_is
    (of-either (AllowsTightly t prefix) c.span_of.result.high _ _ (rw (low, high) at c.span_of.ensures.high) one other)

pub returns-clause-bounded : goal.returns-clause-bounded
returns-clause-bounded c =
    let drafts = c.self.invariant in
    let low = sum-fits c.self.inside.index c.in_ok-low.low drafts.small c.in_ok-low.ensures.bounded in
    let high = difference-fits c.self.inside.index c.in_ok-high.high drafts.small c.in_ok-high.ensures.bounded in
    let one = near-sum c.self.inside.index c.in_ok-low.low drafts.small c.in_ok-low.ensures.bounded in
    let other = near-difference c.self.inside.index c.in_ok-high.high drafts.small c.in_ok-high.ensures.bounded in (
      of-either (λ x. unsigned_abs x ≤ 10000000000000000) c.span_of.result.low _ _ (rw (low, high) at c.span_of.ensures.low) one other,
      of-either (λ x. unsigned_abs x ≤ 10000000000000000) c.span_of.result.high _ _ (rw (low, high) at c.span_of.ensures.high) one other,
    )
