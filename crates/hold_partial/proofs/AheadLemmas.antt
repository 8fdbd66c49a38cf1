-- what is ahead of a prefix, one container after another
use Rattle.std.proofs.Common.{◌≡◌, ◌≢◌, ⊎_elim, ℕ, ◌+◌, ◌*◌, ◌<◌, ◌≤◌, ℤ, pos, ◌+ℤ◌, ◌-ℤ◌, ◌*ℤ◌, ◌≤ℤ◌, Bool, true, false, not, ◌&&◌, ◌||◌, ◌==◌, nat_le, List, [], ◌∷◌, ◌++◌, length, get_or, Some, refl, ap, ap₂, sym, subst, ◌∙◌, arith, length-append, unsigned_abs}
use Rattle.std.proofs.lemmas.Bool.{and_parts, false≢true}
use Rattle.std.proofs.lemmas.Bool.Decides.{nat_tests}
use Rattle.std.proofs.lemmas.Int.{ints}
use Rattle.std.proofs.Math.IntN.{zero-*ℤ, suc_ℤ-*ℤ}
use Rattle.std.proofs.lemmas.Option.{get_or_from_slice_get, slice_get_cases, slice_get_within}
use Rattle.std.specs.Prelude.{bytes_eq, cond, map, slice_get}
use Rattle.std.specs.Option.{option_map_or}
use Rattle.std.specs.List.{list_any, filter, range_with_len}
use Rattle.hold_parts.specs.declared.lists.Fit.{Fit}
use Rattle.hold_parts.specs.declared.parts.Item.{Item}
use Rattle.hold_parts.specs.declared.parts.Position.{Position}
use Rattle.hold_parts.specs.Twins.{AreTwins}
use Rattle.hold_limits.specs.Layout.{Layout}
use Rattle.hold_limits.specs.Problem.{Problem}
use Rattle.hold_limits.specs.BranchOrder.{ordered}
use Rattle.hold_limits.specs.Enumeration.{is_accepted, exclude}
use Rattle.hold_limits.specs.Faults.{IsLawful}
use Rattle.hold_limits.specs.Placement.{influence_at, placed_moment, hold_index}
use Rattle.hold_reach.specs.declared.extent.Extent.{Extent}
use Rattle.hold_reach.specs.declared.extent.Extent.TheVariants.{Reach, WideReach, LateralReach}
use Rattle.hold_reach.specs.declared.span.Span.{Span}
use Rattle.hold_reach.specs.Extents.{may_stand, amount_of, so_far, IsBounded, IsSpanOfList}
use Rattle.hold_reach.specs.Reach.{falls, is_free, is_open, amounts, reach}
use Rattle.hold_reach.specs.Rules.{is_used}
use Rattle.hold_reach.proofs.ReachLemmas.{IsSummed, amounts-bounded, summed-start, summed-next, summed-all}
use Rattle.hold_reach.proofs.ViableLemmas.{hold_index-next, lateral_difference-next}
use Rattle.base_words.proofs.PairLemmas.{each-weaker}
use Rattle.hold_partial.specs.declared.ahead.Ahead.{Ahead}
use Rattle.hold_partial.specs.declared.ahead.Extremes.{Extremes}
use Rattle.position_set.specs.declared.set.PositionSet.{PositionSet}
use Rattle.hold_partial.specs.declared.tables.Tables.{Tables}
use Rattle.hold_partial.specs.Arrangement.{Ranked, ranked_of, at_rank}
use Rattle.hold_partial.specs.Ahead.{AreExtremes, Spares, IsSpanOfTwin, moved, IsAhead}
use Rattle.hold_partial.specs.Kept.{AreTables, factor_of}
use Rattle.position_set.specs.Sets.{has}
use Rattle.hold_limits.specs.Twins.{first_twin}
use Rattle.hold_partial.proofs.ClosedLemmas.{at_rank-ext, falls-next_other, falls-next_twin, falls-twins, class-of_twins}
use Rattle.hold_partial.proofs.KeptLemmas.{stand-known}
use Rattle.hold_partial.proofs.LevelSteps.{is_blocked-next, free-by, hold_index-bound, lateral-bound}
use Rattle.hold_partial.proofs.RankLemmas.{least-and-greatest, in-filter, in-range, each-passes, moment-order, number-at, rank-of, at-its-rank}

-- What stays open -------------------------------------------------------------------------------

or-back : (x y : Bool) → (x || y) ≡ (y || x)
or-back true true = refl
or-back true false = refl
or-back false true = refl
or-back false false = refl

-- positions exclude each other
exclude-back : (hold : Layout) (a b : ℕ) → exclude hold a b ≡ exclude hold b a
exclude-back hold a b = each hold.excludes
  where
    each : (pairs : List (ℕ × ℕ)) → list_any (λ (pair : ℕ × ℕ). ((pair.0 == a) && (pair.1 == b)) || ((pair.0 == b) && (pair.1 == a))) pairs
        ≡ list_any (λ (pair : ℕ × ℕ). ((pair.0 == b) && (pair.1 == a)) || ((pair.0 == a) && (pair.1 == b))) pairs
    each [] = refl
    each (pair ∷ pairs) = ap₂ ◌||◌ (or-back ((pair.0 == a) && (pair.1 == b)) ((pair.0 == b) && (pair.1 == a))) (each pairs)

eq-back : (a b : ℕ) → (a == b) ≡ (b == a)
eq-back a b = grind (arith, nat_tests)

-- a container blocks its own position and those that exclude it
pub blocked-by : (hold : Layout) (a q : ℕ) → (exclude hold a q || (a == q)) ≡ ((q == a) || exclude hold q a)
blocked-by hold a q = or-back (exclude hold a q) (a == q) ∙ ap₂ ◌||◌ (eq-back a q) (exclude-back hold a q)

turned : (accepts blocked more closed : Bool) → ((accepts && not (blocked || more)) && not closed) ≡ (((accepts && not blocked) && not closed) && not more)
turned false blocked more closed = refl
turned true true more closed = refl
turned true false true true = refl
turned true false true false = refl
turned true false false true = refl
turned true false false false = refl

unblocked : (accepts blocked more : Bool) → (accepts && not (blocked || more)) ≡ ((accepts && not blocked) && not more)
unblocked false blocked more = refl
unblocked true true more = refl
unblocked true false more = refl

-- a container takes its own position and those that it excludes from the free ones
pub free-next : (t : Problem) (prefix : List ℕ) (other : Item) (q a : ℕ) → is_free t (prefix ++ q ∷ []) other a ≡ (is_free t prefix other a && not ((q == a) || exclude t.hold q a))
free-next t prefix other q a =
    let accepts = is_accepted t.hold (other, a) in
    let used = is_used prefix a in
    let excluded = list_any (λ used. exclude t.hold used a) prefix in
    let more = (q == a) || exclude t.hold q a in
    sym (free-by accepts (is_used (prefix ++ q ∷ []) a) (list_any (λ used. exclude t.hold used a) (prefix ++ q ∷ [])))
    ∙ ap (λ blocked. accepts && not blocked) (is_blocked-next t.hold prefix q a)
    ∙ unblocked accepts (used || excluded) more
    ∙ ap (λ free. free && not more) (free-by accepts used excluded)

swapped : (free more closed : Bool) → ((free && not more) && not closed) ≡ ((free && not closed) && not more)
swapped false more closed = refl
swapped true true true = refl
swapped true true false = refl
swapped true false true = refl
swapped true false false = refl

-- a container closes its own position and those that it excludes to the containers that are not its twins
pub open-next : (t : Problem) (prefix : List ℕ) (item other : Item) (q a : ℕ) → slice_get (ordered t.items) (length prefix) ≡ Some item → (AreTwins item other → ⊥)
    → is_open t (prefix ++ q ∷ []) other a ≡ (is_open t prefix other a && not ((q == a) || exclude t.hold q a))
open-next t prefix item other q a next apart =
    let more = (q == a) || exclude t.hold q a in
    ap₂ (λ free closed. free && not closed) (free-next t prefix other q a) (falls-next_other t prefix item other q a next apart)
    ∙ swapped (is_free t prefix other a) more (falls t prefix other a)

parted : (free more closed below : Bool) → ((free && not more) && not (closed || below)) ≡ (((free && not closed) && not more) && not below)
parted false more closed below = refl
parted true true true below = refl
parted true true false below = refl
parted true false true below = refl
parted true false false below = refl

-- and, to its twins, those with no greater number too
pub open-next_twin : (t : Problem) (prefix : List ℕ) (item other : Item) (q a : ℕ) → slice_get (ordered t.items) (length prefix) ≡ Some item → AreTwins item other
    → is_open t (prefix ++ q ∷ []) other a ≡ ((is_open t prefix other a && not ((q == a) || exclude t.hold q a)) && not (nat_le a q))
open-next_twin t prefix item other q a next twins =
    let more = (q == a) || exclude t.hold q a in
    ap₂ (λ free closed. free && not closed) (free-next t prefix other q a) (falls-next_twin t prefix item other q a next twins)
    ∙ parted (is_free t prefix other a) more (falls t prefix other a) (nat_le a q)

-- two sets of ranks, one without the other
pub at_rank-less : (f g h : ℕ → Bool) (ranks : List Ranked) → ((a : ℕ) → h a ≡ (f a && not (g a))) → (r : ℕ) → (at_rank f ranks r && not (at_rank g ranks r)) ≡ at_rank h ranks r
at_rank-less f g h ranks same r = ⊎_elim
    (λ here. rw here.2 (sym (same here.0.1)))
    (λ past. rw past.1 refl)
    (slice_get_cases ranks r).1

-- the free positions once the next container stands on one
pub free-after : (t : Problem) (ranks : List Ranked) (prefix : List ℕ) (other : Item) (q : ℕ) (places : PositionSet)
    → ((r : ℕ) → has places r ≡ at_rank (λ a. is_free t prefix other a && not ((q == a) || exclude t.hold q a)) ranks r) → (r : ℕ) → has places r ≡ at_rank (is_free t (prefix ++ q ∷ []) other) ranks r
free-after t ranks prefix other q places stands r =
    stands r ∙ at_rank-ext (λ a. is_free t prefix other a && not ((q == a) || exclude t.hold q a)) (is_free t (prefix ++ q ∷ []) other) ranks (λ a. sym (free-next t prefix other q a)) r

apart-is : (q a : ℕ) → a ≢ q → (q == a) ≡ false
apart-is q a apart = grind (arith, nat_tests)

and-true : (b : Bool) → b ≡ true → (b && true) ≡ true
and-true b is = rw is refl

stays-open : (t : Problem) (prefix : List ℕ) (item other : Item) (q a : ℕ) → slice_get (ordered t.items) (length prefix) ≡ Some item → (AreTwins item other → ⊥)
    → (a ≢ q) × (exclude t.hold a q ≡ false) → is_open t prefix other a ≡ true → is_open t (prefix ++ q ∷ []) other a ≡ true
stays-open t prefix item other q a next apart spared is_open_now =
    let spares : ((q == a) || exclude t.hold q a) ≡ false = ap₂ ◌||◌ (apart-is q a spared.0) (exclude-back t.hold q a ∙ spared.1) in
    open-next t prefix item other q a next apart ∙ ap (λ more. is_open t prefix other a && not more) spares ∙ and-true (is_open t prefix other a) is_open_now

was-open : (t : Problem) (prefix : List ℕ) (item other : Item) (q a : ℕ) → slice_get (ordered t.items) (length prefix) ≡ Some item → (AreTwins item other → ⊥)
    → is_open t (prefix ++ q ∷ []) other a ≡ true → is_open t prefix other a ≡ true
was-open t prefix item other q a next apart is_open_now =
    (and_parts (is_open t prefix other a) (not ((q == a) || exclude t.hold q a)) (sym (open-next t prefix item other q a next apart) ∙ is_open_now)).0

-- what a container adds at most and at least stays the same while the positions where it does so stay open
amounts-next : (t : Problem) (prefix : List ℕ) (item other : Item) (q : ℕ) (e : Extremes) → slice_get (ordered t.items) (length prefix) ≡ Some item → (AreTwins item other → ⊥)
    → AreExtremes t prefix other e → (e.first ≢ q) × (exclude t.hold e.first q ≡ false) → (e.last ≢ q) × (exclude t.hold e.last q ≡ false)
    → IsSpanOfList (amounts t (may_stand Reach t (prefix ++ q ∷ [])) (amount_of Reach t.hold) other) (Some e.span)
amounts-next t prefix item other q e next apart extremes first last =
    let f : ℕ → ℤ = λ a. placed_moment t.hold (other, a) in
    let p : ℕ → Bool = is_open t (prefix ++ q ∷ []) other in
    let n : ℕ = length t.hold.positions in
    let found = least-and-greatest f e.first e.last (filter p (range_with_len 0 n))
    (in-filter p (range_with_len 0 n) e.first (in-range n e.first (stand-known Reach t prefix other e.first extremes.first)) (stays-open t prefix item other q e.first next apart first extremes.first))
    (in-filter p (range_with_len 0 n) e.last (in-range n e.last (stand-known Reach t prefix other e.last extremes.last)) (stays-open t prefix item other q e.last next apart last extremes.last))
    (each-weaker (λ a. p a ≡ true) (λ a. (f e.first ≤ℤ f a) × (f a ≤ℤ f e.last)) (λ a now. extremes.between a (was-open t prefix item other q a next apart now)) (filter p (range_with_len 0 n)) (each-passes p (range_with_len 0 n))) in
    (found.0, extremes.low ∙ found.1, extremes.high ∙ found.2)

-- Twins of the next container ---------------------------------------------------------------------

filter-same : (p q : ℕ → Bool) → ((a : ℕ) → p a ≡ q a) → (ns : List ℕ) → filter p ns ≡ filter q ns
filter-same p q same [] = refl
filter-same p q same (n ∷ ns) = ap₂ (λ passes rest. cond passes (n ∷ rest) rest) (same n) (filter-same p q same ns)

accepted-twins : (hold : Layout) (a b : Item) (q : ℕ) → AreTwins a b → is_accepted hold (a, q) ≡ is_accepted hold (b, q)
accepted-twins hold a b q twins =
    ap₂ (λ kind mass. option_map_or (λ (place : Position). list_any (λ (fit : Fit). bytes_eq fit.kind kind && nat_le mass fit.most.0) place.fits) (slice_get hold.positions q) false) twins.0 twins.1

open-twins : (t : Problem) (prefix : List ℕ) (a b : Item) (q : ℕ) → AreTwins a b → is_open t prefix a q ≡ is_open t prefix b q
open-twins t prefix a b q twins =
    ap₂ (λ accepts closed. (accepts && (not (is_used prefix q) && not (list_any (λ used. exclude t.hold used q) prefix))) && not closed)
    (accepted-twins t.hold a b q twins) (falls-twins t prefix a b q twins)

-- twins add the same on the same positions
amounts-twins : (t : Problem) (prefix : List ℕ) (a b : Item) → AreTwins a b → amounts t (is_open t prefix) (placed_moment t.hold) a ≡ amounts t (is_open t prefix) (placed_moment t.hold) b
amounts-twins t prefix a b twins =
    let ns = range_with_len 0 (length t.hold.positions) in
    ap₂ (λ mass qs. map (λ q. pos mass *ℤ influence_at t.hold q) qs) twins.1 (filter-same (is_open t prefix a) (is_open t prefix b) (λ q. open-twins t prefix a b q twins) ns)

-- The containers after the next one -------------------------------------------------------------

-- the span moved by the moment of the next container on the position and by what its twins add
abbrev pub moved_span : Problem → List ℕ → ℕ → ℕ → Span → Span → Span
moved_span t prefix q twins each span = record { low = moved t prefix q twins each.low span.low; high = moved t prefix q twins each.high span.high }

-- what a loop over the containers after the next one keeps
pub record IsLooked (t : Problem) (prefix : List ℕ) (item : Item) (rank done : ℕ) (ends : PositionSet) (twins : ℕ) (span : Span) : Type 0 where
  pub known : (a : ℕ) → has ends a ≡ true → a < length t.hold.positions
  pub few : twins ≤ done
  pub summed : (q : ℕ) (each : Span) → Spares t.hold ends q → (0 < twins → IsSpanOfTwin t prefix item q each) → IsSummed Reach t (prefix ++ q ∷ []) rank done (moved_span t prefix q twins each span)
  pub bounded : IsBounded (248000000000 + 2000000000 * done) span

no-twins : (y : ℤ) → pos 0 *ℤ y ≡ pos 0
no-twins y = zero-*ℤ y

back-to : (x y z : ℤ) → z ≡ pos 0 → ((x -ℤ x) +ℤ y) +ℤ z ≡ y
back-to x y z none = omega (arith, ints)

pub looked-start : (t : Problem) (prefix : List ℕ) (item : Item) (rank : ℕ) (ends : PositionSet) (span : Span) → IsLawful t → length prefix < length t.items → rank ≡ length prefix + 1
    → ((a : ℕ) → has ends a ≡ false) → span.low ≡ hold_index t prefix → span.high ≡ hold_index t prefix → IsLooked t prefix item rank 0 ends 0 span
looked-start t prefix item rank ends span lawful short begins none low high =
    let bound = hold_index-bound t lawful prefix (omega (arith, short)) in
    record {
      known = λ a is. absurd (false≢true (sym (none a) ∙ is));
      few = omega arith;
      summed = λ q each _ _.
          let next = hold_index t (prefix ++ q ∷ []) in
          let here = hold_index t prefix in
          summed-start Reach t (prefix ++ q ∷ []) rank (moved_span t prefix q 0 each span) (omega (arith, begins, length-append prefix (q ∷ [])))
          (ap (λ (x : ℤ). ((x -ℤ here) +ℤ next) +ℤ pos 0 *ℤ each.low) low ∙ back-to here next (pos 0 *ℤ each.low) (no-twins each.low))
          (ap (λ (x : ℤ). ((x -ℤ here) +ℤ next) +ℤ pos 0 *ℤ each.high) high ∙ back-to here next (pos 0 *ℤ each.high) (no-twins each.high))
          (hold_index-bound t lawful (prefix ++ q ∷ []) (omega (arith, short, length-append prefix (q ∷ []))));
      bounded = (omega (arith, bound, ap unsigned_abs low), omega (arith, bound, ap unsigned_abs high));
    }

or-first : (a b c : Bool) → a ≡ true → ((a || b) || c) ≡ true
or-first a b c is = rw is refl

or-second : (a b c : Bool) → b ≡ true → ((a || b) || c) ≡ true
or-second true b c is = refl
or-second false b c is = rw is refl

or-third : (a b c : Bool) → c ≡ true → ((a || b) || c) ≡ true
or-third true b c is = refl
or-third false true c is = refl
or-third false false c is = is

self-is : (n : ℕ) → (n == n) ≡ true
self-is n = grind (arith, nat_tests)

-- the ends with two more
ends-known : (ends more : PositionSet) (first last n : ℕ) → ((a : ℕ) → has more a ≡ ((has ends a || (a == first)) || (a == last))) → ((a : ℕ) → has ends a ≡ true → a < n) → first < n → last < n
    → (a : ℕ) → has more a ≡ true → a < n
ends-known ends more first last n same known of_first of_last a is = cases (has ends a) (known a) (sym (same a) ∙ is)
  where
    cases : (b : Bool) → (b ≡ true → a < n) → ((b || (a == first)) || (a == last)) ≡ true → a < n
    cases true before is = before refl
    cases false before is = grind (arith, nat_tests)

sum-moved : (a b c h k m : ℤ) → c ≡ a +ℤ b → ((c -ℤ h) +ℤ k) +ℤ m ≡ (((a -ℤ h) +ℤ k) +ℤ m) +ℤ b
sum-moved a b c h k m is = omega (arith, ints)

sum-bound : (a b c : ℤ) (done : ℕ) → c ≡ a +ℤ b → unsigned_abs a ≤ 248000000000 + 2000000000 * done → unsigned_abs b ≤ 2000000000 → unsigned_abs c ≤ 248000000000 + 2000000000 * (done + 1)
sum-bound a b c done is first second = omega (arith, ints)

-- with the container of one rank more, which is no twin of the next one
pub looked-next : (t : Problem) (prefix : List ℕ) (item other : Item) (rank done : ℕ) (ends more : PositionSet) (twins : ℕ) (span wider : Span) (e : Extremes) → IsLawful t
    → slice_get (ordered t.items) (length prefix) ≡ Some item → rank < length t.items → slice_get (ordered t.items) rank ≡ Some other → (AreTwins item other → ⊥) → other.mass.0 ≤ 20000
    → AreExtremes t prefix other e → IsBounded 2000000000 e.span → ((a : ℕ) → has more a ≡ ((has ends a || (a == e.first)) || (a == e.last)))
    → wider.low ≡ span.low +ℤ e.span.low → wider.high ≡ span.high +ℤ e.span.high
    → IsLooked t prefix item rank done ends twins span → IsLooked t prefix item (rank + 1) (done + 1) more twins wider
looked-next t prefix item other rank done ends more twins span wider e lawful next within there apart light extremes small grown low high looked = record {
  known = ends-known ends more e.first e.last (length t.hold.positions) grown looked.known (stand-known Reach t prefix other e.first extremes.first) (stand-known Reach t prefix other e.last extremes.last);
  few = omega (arith, looked.few);
  summed = λ q each spares of_twin.
      let before : Spares t.hold ends q = λ a is. spares a (grown a ∙ or-first (has ends a) (a == e.first) (a == e.last) is) in
      let first = spares e.first (grown e.first ∙ or-second (has ends e.first) (e.first == e.first) (e.first == e.last) (self-is e.first)) in
      let last = spares e.last (grown e.last ∙ or-third (has ends e.last) (e.last == e.first) (e.last == e.last) (self-is e.last)) in
      summed-next Reach t (prefix ++ q ∷ []) rank done (moved_span t prefix q twins each span) e.span (moved_span t prefix q twins each wider) other lawful within there light (looked.summed q each before of_twin)
      (amounts-next t prefix item other q e next apart extremes first last)
      (sum-moved span.low e.span.low wider.low (hold_index t prefix) (hold_index t (prefix ++ q ∷ [])) (pos twins *ℤ each.low) low)
      (sum-moved span.high e.span.high wider.high (hold_index t prefix) (hold_index t (prefix ++ q ∷ [])) (pos twins *ℤ each.high) high);
  bounded = (sum-bound span.low e.span.low wider.low done low looked.bounded.0 small.0, sum-bound span.high e.span.high wider.high done high looked.bounded.1 small.1);
}

one-more : (n : ℕ) (y : ℤ) → pos (n + 1) *ℤ y ≡ pos n *ℤ y +ℤ y
one-more n y = ap (λ (x : ℤ). x *ℤ y) (ap pos (omega arith)) ∙ suc_ℤ-*ℤ (pos n) y

twin-moved : (a m n b : ℤ) → n ≡ m +ℤ b → a +ℤ n ≡ (a +ℤ m) +ℤ b
twin-moved a m n b is = omega (arith, ints)

-- with the container of one rank more, which is a twin of the next one
pub looked-twin : (t : Problem) (prefix : List ℕ) (item other : Item) (rank done : ℕ) (ends : PositionSet) (twins : ℕ) (span : Span) → IsLawful t
    → rank < length t.items → slice_get (ordered t.items) rank ≡ Some other → AreTwins item other → other.mass.0 ≤ 20000
    → IsLooked t prefix item rank done ends twins span → IsLooked t prefix item (rank + 1) (done + 1) ends (twins + 1) span
looked-twin t prefix item other rank done ends twins span lawful within there are light looked = record {
  known = looked.known;
  few = omega (arith, looked.few);
  summed = λ q each spares of_twin.
      let is : IsSpanOfTwin t prefix item q each = of_twin (omega arith) in
      let of_other = subst (λ (xs : List ℤ). IsSpanOfList xs (Some each)) (amounts-twins t (prefix ++ q ∷ []) item other are) is in
      summed-next Reach t (prefix ++ q ∷ []) rank done (moved_span t prefix q twins each span) each (moved_span t prefix q (twins + 1) each span) other lawful within there light (looked.summed q each spares (λ _. is))
      of_other
      (twin-moved ((span.low -ℤ hold_index t prefix) +ℤ hold_index t (prefix ++ q ∷ [])) (pos twins *ℤ each.low) (pos (twins + 1) *ℤ each.low) each.low (one-more twins each.low))
      (twin-moved ((span.high -ℤ hold_index t prefix) +ℤ hold_index t (prefix ++ q ∷ [])) (pos twins *ℤ each.high) (pos (twins + 1) *ℤ each.high) each.high (one-more twins each.high));
  bounded = (omega (arith, looked.bounded.0), omega (arith, looked.bounded.1));
}

-- what the extremes of a container come to
pub extremes-bounded : (t : Problem) (prefix : List ℕ) (other : Item) (e : Extremes) → IsLawful t → other.mass.0 ≤ 20000 → AreExtremes t prefix other e → IsBounded 2000000000 e.span
extremes-bounded t prefix other e lawful light extremes =
    let f : ℕ → ℤ = λ a. placed_moment t.hold (other, a) in
    let p : ℕ → Bool = is_open t prefix other in
    let n : ℕ = length t.hold.positions in
    let found = least-and-greatest f e.first e.last (filter p (range_with_len 0 n))
    (in-filter p (range_with_len 0 n) e.first (in-range n e.first (stand-known Reach t prefix other e.first extremes.first)) extremes.first)
    (in-filter p (range_with_len 0 n) e.last (in-range n e.last (stand-known Reach t prefix other e.last extremes.last)) extremes.last)
    (each-weaker (λ a. p a ≡ true) (λ a. (f e.first ≤ℤ f a) × (f a ≤ℤ f e.last)) (λ a now. extremes.between a now) (filter p (range_with_len 0 n)) (each-passes p (range_with_len 0 n))) in
    amounts-bounded Reach t prefix other e.span lawful light (found.0, extremes.low ∙ found.1, extremes.high ∙ found.2)

-- with all containers
pub looked-all : (t : Problem) (prefix : List ℕ) (item : Item) (rank done : ℕ) (ahead : Ahead) → length t.items ≤ rank → done ≤ 60
    → IsLooked t prefix item rank done ahead.ends ahead.twins ahead.reach → IsAhead t prefix item ahead
looked-all t prefix item rank done ahead past few looked = record {
  known = looked.known;
  few = omega (arith, few, looked.few);
  reach = λ q each spares of_twin. sym (summed-all Reach t (prefix ++ q ∷ []) rank done (moved_span t prefix q ahead.twins each ahead.reach) past (looked.summed q each spares of_twin));
  bounded = (omega (arith, few, looked.bounded.0), omega (arith, few, looked.bounded.1));
}

-- Extremes --------------------------------------------------------------------------------------

entry-at : (hold : Layout) (ranks : List Ranked) (r q : ℕ) (d : Ranked) → slice_get ranks r ≡ Some (ranked_of hold q) → get_or ranks r d ≡ ranked_of hold q
entry-at hold ranks r q d there = get_or_from_slice_get ranks r (ranked_of hold q) d there

-- the positions of the first and the last open rank of a container are its extremes
pub extremes-are : (t : Problem) (tables : Tables) → AreTables t tables → (prefix : List ℕ) (item : Item) (places : PositionSet) → ((r : ℕ) → has places r ≡ at_rank (is_open t prefix item) tables.ranks.items r)
    → (first last : ℕ) → has places first ≡ true → has places last ≡ true → ((r : ℕ) → has places r ≡ true → first ≤ r) → ((r : ℕ) → has places r ≡ true → r ≤ last)
    → (mass : ℕ) → mass ≡ item.mass.0 → (e : Extremes) → ((d : Ranked) → e.first ≡ (get_or tables.ranks.items first d).1) → ((d : Ranked) → e.last ≡ (get_or tables.ranks.items last d).1)
    → e.span.low ≡ pos mass *ℤ factor_of Reach tables first → e.span.high ≡ pos mass *ℤ factor_of Reach tables last → AreExtremes t prefix item e
extremes-are t tables prepared prefix item places stands first last has_first has_last from_first to_last mass mass_is e first_is last_is low high =
    let ranks = tables.ranks.items in
    let none : Ranked = (pos 0, 0) in
    let p : ℕ → Bool = is_open t prefix item in
    let a = number-at t.hold ranks prepared.ranks p first (sym (stands first) ∙ has_first) in
    let b = number-at t.hold ranks prepared.ranks p last (sym (stands last) ∙ has_last) in
    let at_first = entry-at t.hold ranks first a.0 none a.1 in
    let at_last = entry-at t.hold ranks last b.0 none b.1 in
    let is_first : e.first ≡ a.0 = first_is none ∙ ap (λ (r : Ranked). r.1) at_first in
    let is_last : e.last ≡ b.0 = last_is none ∙ ap (λ (r : Ranked). r.1) at_last in
    record {
      first = subst (λ q. p q ≡ true) (sym is_first) a.2;
      last = subst (λ q. p q ≡ true) (sym is_last) b.2;
      between = λ q is.
          let rank = rank-of t.hold ranks prepared.ranks q (stand-known Reach t prefix item q is) in
          let there : has places rank.0 ≡ true = stands rank.0 ∙ at-its-rank p t.hold ranks rank.0 q rank.2 ∙ is in
          let at = entry-at t.hold ranks rank.0 q none rank.2 in
          let after : influence_at t.hold a.0 ≤ℤ influence_at t.hold q =
          subst (λ (x : ℤ). x ≤ℤ influence_at t.hold q) (ap (λ (r : Ranked). r.0) at_first)
          (subst (λ (x : ℤ). (get_or ranks first none).0 ≤ℤ x) (ap (λ (r : Ranked). r.0) at) (prepared.ranks.rising first rank.0 none (from_first rank.0 there) rank.1)) in
          let before : influence_at t.hold q ≤ℤ influence_at t.hold b.0 =
          subst (λ (x : ℤ). x ≤ℤ influence_at t.hold b.0) (ap (λ (r : Ranked). r.0) at)
          (subst (λ (x : ℤ). (get_or ranks rank.0 none).0 ≤ℤ x) (ap (λ (r : Ranked). r.0) at_last) (prepared.ranks.rising rank.0 last none (to_last rank.0 there) (slice_get_within ranks last (ranked_of t.hold b.0) b.1))) in (
            subst (λ n. placed_moment t.hold (item, n) ≤ℤ placed_moment t.hold (item, q)) (sym is_first) (moment-order item.mass.0 (influence_at t.hold a.0) (influence_at t.hold q) after),
            subst (λ n. placed_moment t.hold (item, q) ≤ℤ placed_moment t.hold (item, n)) (sym is_last) (moment-order item.mass.0 (influence_at t.hold q) (influence_at t.hold b.0) before),
          );
      low = low ∙ ap₂ (λ m (x : ℤ). pos m *ℤ x) mass_is (ap (λ (r : Ranked). r.0) at_first) ∙ ap (λ n. placed_moment t.hold (item, n)) (sym is_first);
      high = high ∙ ap₂ (λ m (x : ℤ). pos m *ℤ x) mass_is (ap (λ (r : Ranked). r.0) at_last) ∙ ap (λ n. placed_moment t.hold (item, n)) (sym is_last);
    }

-- Twins and others -----------------------------------------------------------------------------

-- containers of different classes are no twins
pub twins-apart : (t : Problem) (item other : Item) (class class_of_other : ℕ) → class ≡ first_twin t item → class_of_other ≡ first_twin t other → class_of_other ≢ class → AreTwins item other → ⊥
twins-apart t item other class class_of_other is of_other differ twins = differ (of_other ∙ sym (class-of_twins t item other twins) ∙ sym is)

-- The next container ----------------------------------------------------------------------------

-- what there is so far grows by what the next container adds
pub so_far-next : (e : Extent) (t : Problem) (prefix : List ℕ) (item : Item) (q : ℕ) → slice_get (ordered t.items) (length prefix) ≡ Some item
    → so_far e t (prefix ++ q ∷ []) ≡ so_far e t prefix +ℤ amount_of e t.hold (item, q)
so_far-next Reach t prefix item q next = hold_index-next t prefix item q next
so_far-next WideReach t prefix item q next = hold_index-next t prefix item q next
so_far-next LateralReach t prefix item q next = lateral_difference-next t prefix item q next

pub so_far-bound : (e : Extent) (t : Problem) (prefix : List ℕ) → IsLawful t → length prefix ≤ length t.items → unsigned_abs (so_far e t prefix) ≤ 248000000000
so_far-bound Reach t prefix lawful short = hold_index-bound t lawful prefix short
so_far-bound WideReach t prefix lawful short = hold_index-bound t lawful prefix short
so_far-bound LateralReach t prefix lawful short = let bound = lateral-bound t lawful prefix short in omega (arith, bound)

moved-is : (end h k moment m r : ℤ) → k ≡ h +ℤ moment → r ≡ (end +ℤ moment) +ℤ m → ((end -ℤ h) +ℤ k) +ℤ m ≡ r
moved-is end h k moment m r grows is = omega (arith, ints)

-- the reach, from what is ahead
pub reach-from_ahead : (t : Problem) (prefix : List ℕ) (item : Item) (q : ℕ) (ahead : Ahead) (added each span : Span) → slice_get (ordered t.items) (length prefix) ≡ Some item
    → IsAhead t prefix item ahead → Spares t.hold ahead.ends q → (0 < ahead.twins → IsSpanOfTwin t prefix item q each) → added.low ≡ placed_moment t.hold (item, q) → added.high ≡ placed_moment t.hold (item, q)
    → span.low ≡ (ahead.reach.low +ℤ added.low) +ℤ pos ahead.twins *ℤ each.low → span.high ≡ (ahead.reach.high +ℤ added.high) +ℤ pos ahead.twins *ℤ each.high
    → reach t (prefix ++ q ∷ []) ≡ Some (span.low, span.high)
reach-from_ahead t prefix item q ahead added each span next is spares of_twin added_low added_high low high =
    let here = hold_index t prefix in
    let there = hold_index t (prefix ++ q ∷ []) in
    let grows = hold_index-next t prefix item q next in
    is.reach q each spares of_twin
    ∙ ap₂ (λ (x y : ℤ). Some (x, y))
    (moved-is ahead.reach.low here there added.low (pos ahead.twins *ℤ each.low) span.low (grows ∙ ap (λ (x : ℤ). here +ℤ x) (sym added_low)) low)
    (moved-is ahead.reach.high here there added.high (pos ahead.twins *ℤ each.high) span.high (grows ∙ ap (λ (x : ℤ). here +ℤ x) (sym added_high)) high)

plus-none : (x r z : ℤ) → z ≡ pos 0 → r ≡ x → r ≡ x +ℤ z
plus-none x r z none is = omega (arith, ints)

-- the same where no twins are ahead
pub reach-without_twins : (t : Problem) (prefix : List ℕ) (item : Item) (q : ℕ) (ahead : Ahead) (added span : Span) → slice_get (ordered t.items) (length prefix) ≡ Some item
    → IsAhead t prefix item ahead → Spares t.hold ahead.ends q → ahead.twins ≡ 0 → added.low ≡ placed_moment t.hold (item, q) → added.high ≡ placed_moment t.hold (item, q)
    → span.low ≡ ahead.reach.low +ℤ added.low → span.high ≡ ahead.reach.high +ℤ added.high → reach t (prefix ++ q ∷ []) ≡ Some (span.low, span.high)
reach-without_twins t prefix item q ahead added span next is spares none added_low added_high low high =
    let nothing : pos ahead.twins *ℤ pos 0 ≡ pos 0 = rw none refl in
    reach-from_ahead t prefix item q ahead added (record { low = pos 0; high = pos 0 }) span next is spares (λ some. absurd (omega (arith, some, none))) added_low added_high
    (plus-none (ahead.reach.low +ℤ added.low) span.low (pos ahead.twins *ℤ pos 0) nothing low)
    (plus-none (ahead.reach.high +ℤ added.high) span.high (pos ahead.twins *ℤ pos 0) nothing high)
