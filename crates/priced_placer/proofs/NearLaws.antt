-- price-near prefixes are near, since the tight reach lies in the reach
use Rattle.std.proofs.Common.{◌≡◌, ℕ, ◌≤◌, ◌≤ℤ◌, false, List, Option, Some, None, ap, arith, is_gt, Ordering, nat_cmp}
use Rattle.std.proofs.lemmas.Bool.Decides.{nat_tests}
use Rattle.std.proofs.lemmas.Cmp.{nat_list_cmp_total, tied_itself}
use Rattle.std.proofs.lemmas.List.Elements.{All-weaker}
use Rattle.std.specs.Prelude.{IsSomeAnd}
use Rattle.std.specs.Ordering.{ordering_then}
use Rattle.std.specs.Cmp.Lexicographic.{slice_cmp}
use Rattle.hold_limits.specs.Problem.{Problem}
use Rattle.hold_limits.specs.Placement.{Key, IsAtMost, key}
use Rattle.hold_limits.proofs.KeyOrder.{IsAtMost-trans}
use Rattle.hold_reach.specs.Reach.{bound}
use Rattle.certificate.specs.Good.{AreAtMost}
use Rattle.placer.specs.Near.{IsNear}
use Rattle.priced_placer.specs.PriceNear.{IsPriceNear}
use Rattle.priced_placer.proofs.TightBounds.{bound-at_most}

-- with the same numbers, the key with the lesser bound is at most the other
lesser-at_most : (m n : ℕ) (prefix : List ℕ) → m ≤ n → IsAtMost (m, prefix) (n, prefix)
lesser-at_most m n prefix less = not_greater m n (slice_cmp nat_cmp prefix prefix) less (ap is_gt (tied_itself nat_list_cmp_total prefix))
  where
    not_greater : (m n : ℕ) (o : Ordering) → m ≤ n → is_gt o ≡ false → is_gt (ordering_then (nat_cmp m n) o) ≡ false
    not_greater m n o less not = grind (arith, nat_tests)

pub price_near-near : (t : Problem) (prefix : List ℕ) → t.ideal_low ≤ℤ t.ideal_high → IsPriceNear t prefix → IsNear t prefix
price_near-near t prefix band near = record {
  viable = near.has.viable;
  promising = λ best of_task. below (bound t prefix) (key t best) (bound-at_most t prefix near.bound band near.has) (near.promising best of_task);
}
  where
    below : (o : Option ℕ) (most : Key) → IsSomeAnd o (λ a. a ≤ near.bound) → IsAtMost (near.bound, prefix) most → IsSomeAnd o (λ a. IsAtMost (a, prefix) most)
    below None most less is = absurd less
    below (Some a) most less is = IsAtMost-trans (a, prefix) (near.bound, prefix) most (lesser-at_most a near.bound prefix less) is

pub price_near-few : (t : Problem) (budget : ℕ) → t.ideal_low ≤ℤ t.ideal_high → AreAtMost (IsNear t) budget → AreAtMost (IsPriceNear t) budget
price_near-few t budget band few lists different near = few lists different (All-weaker (IsPriceNear t) (IsNear t) (λ prefix is. price_near-near t prefix band is) lists near)
