-- the tight reach from what both ends of it show
use Rattle.std.proofs.Common.{refl, ◌≡◌, ⊎_elim, ℕ, ℤ, pos, ◌+ℤ◌, ◌≤ℤ◌, ◌<ℤ◌, true, false, List, length, map, Option, Some, None, sym, ap, ap₂, ◌∙◌, subst, arith}
use Rattle.std.proofs.lemmas.Bool.{cases_Bool}
use Rattle.std.proofs.lemmas.Int.{ints}
use Rattle.std.proofs.lemmas.List.{length-map}
use Rattle.std.proofs.lemmas.Slice.Zip.{AllZip-long}
use Rattle.std.specs.Prelude.{All, IfSome, IfNone, is_some}
use Rattle.arrayvec.specs.ArrayVec.{ArrayVec}
use Rattle.assignment.specs.declared.candidate.Candidate.{Candidate}
use Rattle.assignment.specs.Costs.{MayStand, cost_in}
use Rattle.assignment.specs.Prices.{AreLowerPrices, total}
use Rattle.assignment.specs.Ways.{IsWay, cost_of}
use Rattle.hold_reach.specs.Reach.{remaining}
use Rattle.assignment_prices.specs.Steps.{counted_from}
use Rattle.tight_reach.specs.Candidates.{IsCandidate, AreCandidates, AreInfluences}
use Rattle.tight_reach.proofs.Crossing.{counted-twice, counted-plus, total-counted, small-counted, signs-counted, bounds-counted, way-of_candidates, way-for_candidates, cost_of-counted}
use Rattle.hold_limits.specs.Placement.{hold_index}
use Rattle.hold_limits.specs.Problem.{Problem}
use Rattle.assignment_prices.specs.declared.end.End.{End}
use Rattle.assignment_prices.specs.declared.end.End.TheVariants.{Low, High}
use Rattle.assignment_prices.specs.declared.prices.Prices.{Prices}
use Rattle.assignment_prices.specs.Priced.{AreSmall, ArePricesOf, price_span}
use Rattle.assignment_prices.specs.TightReach.{IsWayFrom, moment_of_way, AllowsTightly, IsTightReach}
use Rattle.assignment_prices.proofs.PriceLemmas.{lower-end, upper-end, allowed-priced}
use Rattle.tight_reach.specs.declared.ends.Reached.{Reached}
use Rattle.tight_reach.specs.Ends.{IsReached, sum_of}

-- from what the cheapest assignment shows, counted from that end
pub reached-from : (t : Problem) (prefix : List ℕ) (end : End) (candidates : List Candidate) (influences items places : List ℤ) (way : Option (ArrayVec ℕ)) (r : Reached)
    → AreCandidates t prefix candidates → AreInfluences t.hold end influences
    → AreLowerPrices MayStand (cost_in influences) candidates items places → length places ≡ length influences → AreSmall items → AreSmall places
    → IfSome way (λ w. IsWay MayStand candidates w.items) → IfSome way (λ w. cost_of (cost_in influences) candidates w.items ≡ total items +ℤ total places)
    → IfNone way ((w : List ℕ) → IsWay MayStand candidates w → ⊥) → IfNone way (pos 500000000000 ≤ℤ (total items +ℤ total places))
    → r.items.items ≡ map (counted_from end) items → r.places.items ≡ map (counted_from end) places → r.has_way ≡ is_some way → IsReached end t prefix r
reached-from t prefix end candidates influences items places way r are influence prices one_place small small_too is_way tight none beyond of_items of_places has = record {
  bound = record {
    whole = record {
      one_each = ap length of_items ∙ length-map items (counted_from end) ∙ AllZip-long _ candidates items prices.bound ∙ AllZip-long (IsCandidate t prefix) (remaining t prefix) candidates are;
      one_place = ap length of_places ∙ length-map places (counted_from end) ∙ one_place ∙ influence.count;
      small_items = subst AreSmall (sym of_items) (small-counted end items small);
      small_places = subst AreSmall (sym of_places) (small-counted end places small_too);
    };
    signs = subst (All (λ price. counted_from end price ≤ℤ counted_from end (pos 0))) (sym of_places) (signs-counted end places prices.signs);
    bound = rw (of_items, of_places) (bounds-counted t prefix end influences places influence (remaining t prefix) candidates items are prices.bound);
  };
  way = λ there. some-way way is_way tight (sym has ∙ there);
  none = λ not. no-way way none (sym has ∙ not);
  beyond = λ not. far way beyond (sym has ∙ not);
}
  where
    sums : sum_of r ≡ counted_from end (total items +ℤ total places)
    sums = ap₂ (λ a b. total a +ℤ total b) of_items of_places ∙ ap₂ (λ a b. a +ℤ b) (total-counted end items) (total-counted end places) ∙ sym (counted-plus end (total items) (total places))

    some-way : (way : Option (ArrayVec ℕ)) → IfSome way (λ w. IsWay MayStand candidates w.items) → IfSome way (λ w. cost_of (cost_in influences) candidates w.items ≡ total items +ℤ total places)
        → is_some way ≡ true → (w : List ℕ) × IsWayFrom t prefix w × (moment_of_way t prefix w ≡ sum_of r)
    some-way None is_way tight there = absurd (cc)
    some-way (Some w) is_way tight there = (
      w.items,
      record { each = way-of_candidates t prefix (remaining t prefix) candidates w.items are is_way.each; apart = is_way.apart },
      sym (counted-twice end (moment_of_way t prefix w.items))
          ∙ ap (counted_from end) (sym (cost_of-counted t prefix end influences influence (remaining t prefix) candidates w.items are) ∙ tight)
          ∙ sym sums,
    )

    no-way : (way : Option (ArrayVec ℕ)) → IfNone way ((w : List ℕ) → IsWay MayStand candidates w → ⊥) → is_some way ≡ false → (w : List ℕ) → IsWayFrom t prefix w → ⊥
    no-way (Some w) none not other is = absurd (cc)
    no-way None none not w is = none w record { each = way-for_candidates t prefix (remaining t prefix) candidates w are is.each; apart = is.apart }

    far : (way : Option (ArrayVec ℕ)) → IfNone way (pos 500000000000 ≤ℤ (total items +ℤ total places)) → is_some way ≡ false → pos 500000000000 ≤ℤ counted_from end (sum_of r)
    far (Some w) beyond not = absurd (cc)
    far None beyond not = subst (λ x. pos 500000000000 ≤ℤ x) (sym (ap (counted_from end) sums ∙ counted-twice end (total items +ℤ total places))) beyond

-- the prices for both ends
pub are-prices : (t : Problem) (prefix : List ℕ) (low high : Reached) (x : Prices) → IsReached Low t prefix low → IsReached High t prefix high
    → x ≡ record { lower_items = low.items; lower_places = low.places; upper_items = high.items; upper_places = high.places } → ArePricesOf t prefix x
are-prices t prefix low high x first second is = rw is record {
  lower_whole = first.bound.whole;
  lower = lower-end t prefix low.items.items low.places.items first.bound;
  upper_whole = second.bound.whole;
  upper = upper-end t prefix high.items.items high.places.items second.bound;
}

abbrev pub whole : Reached → Reached → Prices
whole low high = record { lower_items = low.items; lower_places = low.places; upper_items = high.items; upper_places = high.places }

-- where there is a way for both ends, what they sum up to is the tight reach
pub tight-some : (t : Problem) (prefix : List ℕ) (low high : Reached) → IsReached Low t prefix low → IsReached High t prefix high → low.has_way ≡ true → high.has_way ≡ true
    → IsTightReach t prefix (Some (hold_index t prefix +ℤ sum_of low, hold_index t prefix +ℤ sum_of high))
tight-some t prefix low high first second one two =
    let least = first.way one in
    let greatest = second.way two in
    let are = are-prices t prefix low high (whole low high) first second refl in
    record {
      least = (least.0, least.1, ap (λ m. hold_index t prefix +ℤ m) (sym least.2));
      greatest = (greatest.0, greatest.1, ap (λ m. hold_index t prefix +ℤ m) (sym greatest.2));
      between = λ index given. allowed-priced t prefix (whole low high) index are given;
    }

-- a span has one pair of ends
pub one-span : (t : Problem) (prefix : List ℕ) (a b : ℤ × ℤ) → IsTightReach t prefix (Some a) → IsTightReach t prefix (Some b) → a ≡ b
one-span t prefix a b first second =
    let low = first.between b.0 second.least in
    let low_too = second.between a.0 first.least in
    let high = first.between b.1 second.greatest in
    let high_too = second.between a.1 first.greatest in
    ap₂ (λ x y. (x, y)) (same a.0 b.0 low.0 low_too.0) (same a.1 b.1 high_too.1 high.1)
  where
    same : (x y : ℤ) → x ≤ℤ y → y ≤ℤ x → x ≡ y
    same x y less more = omega (arith, ints, less, more)

-- where a prefix has a tight reach there is a way, and where it has none there is none
way-exists : (t : Problem) (prefix : List ℕ) (r : Reached) (end : End) → IsReached end t prefix r → (index : ℤ) → AllowsTightly t prefix index → r.has_way ≡ true
way-exists t prefix r end is index given = ⊎_elim
    (λ (there : r.has_way ≡ true). there)
    (λ (not : r.has_way ≡ false). absurd (is.none not given.0 given.1))
    (cases_Bool r.has_way)

-- the span of the prices is the tight reach, if there is one
pub tight-priced : (t : Problem) (prefix : List ℕ) (low high : Reached) (x : Prices) (tight : ℤ × ℤ) → IsReached Low t prefix low → IsReached High t prefix high → x ≡ whole low high
    → IsTightReach t prefix (Some tight) → price_span t prefix x ≡ tight
tight-priced t prefix low high x tight first second is reach =
    let one = way-exists t prefix low Low first tight.0 reach.least in
    let two = way-exists t prefix high High second tight.0 reach.least in
    ap (price_span t prefix) is ∙ one-span t prefix (price_span t prefix (whole low high)) tight (tight-some t prefix low high first second one two) reach

-- where there is no way the low end is above the high one
pub none-priced : (t : Problem) (prefix : List ℕ) (low high : Reached) (x : Prices) → IsReached Low t prefix low → IsReached High t prefix high → x ≡ whole low high
    → IsTightReach t prefix None → (price_span t prefix x).1 <ℤ (price_span t prefix x).0
none-priced t prefix low high x first second is none = rw is (
    let below = first.beyond (no-way low (λ there. let way = first.way there in none _ (way.0, way.1, refl))) in
    let above = second.beyond (no-way high (λ there. let way = second.way there in none _ (way.0, way.1, refl))) in
    omega (arith, ints, below, above))
  where
    no-way : (r : Reached) → (r.has_way ≡ true → ⊥) → r.has_way ≡ false
    no-way r not = ⊎_elim (λ there. absurd (not there)) (λ is. is) (cases_Bool r.has_way)
