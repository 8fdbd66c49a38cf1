-- what the wide reach of a prefix says of the wide reach with one container more
use Rattle.std.proofs.Common.{refl, ◌≡◌, ⊎_elim, ℕ, ◌+◌, ◌*◌, ◌<◌, ◌≤◌, ◌==◌, ◌||◌, Bool, ℤ, ◌+ℤ◌, ◌-ℤ◌, ◌*ℤ◌, ◌≤ℤ◌, true, false, List, [], ◌∷◌, ◌++◌, length, length-append, get_or, zip, Option, Some, None, sym, ap, ◌∙◌, subst, arith, unsigned_abs, int_lt, pos, FitsSigned, to_z, of_z, w64}
use Rattle.std.proofs.Math.Nat.{eq-or-lt_of_le}
use Rattle.std.proofs.lemmas.Bool.{cases_Bool, eqb-true, false≢true, or_cases}
use Rattle.std.proofs.lemmas.Bool.Decides.{Decides-eqb}
use Rattle.std.proofs.lemmas.Int.{ints, to_z-of_z}
use Rattle.std.proofs.lemmas.List.{length-drop}
use Rattle.std.proofs.lemmas.List.Elements.{All-cons, All-contains, All-drop, All-weaker, Contains-push}
use Rattle.std.proofs.lemmas.Option.{slice_get-get_or}
use Rattle.std.specs.Prelude.{◌↔◌, All, IfSome, IsSomeAnd, MatchOption}
use Rattle.std.specs.Int.{int_max, int_min}
use Rattle.std.specs.List.{list_all}
use Rattle.base_words.specs.Lists.{int_sum_by}
use Rattle.hold_parts.specs.declared.parts.Item.{Item}
use Rattle.hold_limits.specs.declared.moments.Arm.TheVariants.{Influence}
use Rattle.hold_limits.specs.BranchOrder.{ordered}
use Rattle.hold_limits.specs.Faults.{IsLawful}
use Rattle.hold_limits.specs.Problem.{Problem}
use Rattle.hold_limits.specs.Placement.{Exclude, IsSound, Placed, hold_index, influence_at, placed_moment}
use Rattle.hold_limits.proofs.BranchOrderLemmas.{length-ordered}
use Rattle.hold_limits.proofs.LawfulBounds.{lawful-bounds}
use Rattle.hold_limits.proofs.MomentLemmas.{influence_at-bound, int_sum_by-bound, moment_by-bound}
use Rattle.hold_limits.proofs.SoundLemmas.{All-front, IsSound-within}
use Rattle.hold_reach.specs.declared.extent.Extent.TheVariants.{WideReach}
use Rattle.hold_reach.specs.declared.span.Span.{Span}
use Rattle.hold_reach.specs.Choices.{AllowsWidely, IsNearest, IsSpanOf, LiesIn, Spans}
use Rattle.hold_reach.specs.Extents.{IsBounded}
use Rattle.hold_reach.specs.Reach.{IsFree, amounts, gap_to_ideal, greatest, has_position, is_free, least, remaining, wide_bound, wide_reach}
use Rattle.hold_reach.proofs.ChoiceLemmas.{wide_reach-is}
use Rattle.hold_reach.proofs.LoadLemmas.{mass-at}
use Rattle.hold_reach.proofs.ReachLemmas.{amount-bound, amounts-within}
use Rattle.hold_reach.proofs.ViableLemmas.{band-in_order, free_before, gap-nearest, hold_index-next, remaining-next, wide_reach-shorter}
use Rattle.position_set.specs.Sets.{has}
use Rattle.position_set.specs.declared.set.PositionSet.{PositionSet}
use Rattle.stop_partial.specs.declared.next.NextPositions.{NextPositions}
use Rattle.stop_partial.specs.Next.{AreNext, AreNextMoments, HoldsNext, IsNext, IsNextMoment}

-- How large a wide reach can be -----------------------------------------------------------------

-- the containers of a lawful task are of at most 20,000 kg
light : (t : Problem) → IsLawful t → All (λ (item : Item). item.mass.0 ≤ 20000) (ordered t.items)
light t lawful k d within = mass-at t lawful k (get_or (ordered t.items) k d) (omega (arith, within, length-ordered t.items)) (slice_get-get_or (ordered t.items) k d within)

sums-bounded : (index sum : ℤ) (count : ℕ) → unsigned_abs index ≤ 248000000000 → unsigned_abs sum ≤ count * 2000000000 → count ≤ 60 → unsigned_abs (index +ℤ sum) ≤ 400000000000
sums-bounded index sum count one other few = omega (arith, ints)

-- what a prefix has so far and what each container after it adds
reached-bounded : (t : Problem) (prefix : List ℕ) (f : Item → ℤ) → IsLawful t → length prefix ≤ length t.items → ((item : Item) → item.mass.0 ≤ 20000 → unsigned_abs (f item) ≤ 2000000000)
    → unsigned_abs (hold_index t prefix +ℤ int_sum_by f (remaining t prefix)) ≤ 400000000000
reached-bounded t prefix f lawful short each =
    let masses = All-drop (λ (item : Item). item.mass.0 ≤ 20000) (length prefix) (ordered t.items) (light t lawful) in
    let most = int_sum_by-bound f 2000000000 (remaining t prefix) (All-weaker (λ (item : Item). item.mass.0 ≤ 20000) (λ item. unsigned_abs (f item) ≤ 2000000000) each (remaining t prefix) masses) in
    let few : length (remaining t prefix) ≤ 60 = omega (arith, length-drop (length prefix) (ordered t.items), length-ordered t.items, (lawful-bounds t lawful).items) in
    sums-bounded (hold_index t prefix) (int_sum_by f (remaining t prefix)) (length (remaining t prefix)) (moment_by-bound Influence t lawful prefix short) most few

-- the wide reach of a lawful task's prefix
wide_reach-bounded : (t : Problem) (prefix : List ℕ) (span : ℤ × ℤ) → IsLawful t → length prefix ≤ length t.items → wide_reach t prefix ≡ Some span
    → (unsigned_abs span.0 ≤ 400000000000) × (unsigned_abs span.1 ≤ 400000000000)
wide_reach-bounded t prefix span lawful short is = ⊎_elim
    (λ (all : list_all (has_position t (is_free t prefix)) (remaining t prefix) ≡ true).
    let same : Some (low, high) ≡ Some span = rw all at is in
    let same_span : (low, high) ≡ span = cc in
    subst (λ (s : ℤ × ℤ). (unsigned_abs s.0 ≤ 400000000000) × (unsigned_abs s.1 ≤ 400000000000)) same_span (
      reached-bounded t prefix lows lawful short (λ item few. (amounts-within WideReach t prefix item lawful few).0),
      reached-bounded t prefix highs lawful short (λ item few. (amounts-within WideReach t prefix item lawful few).1),
    ))
    (λ (not : list_all (has_position t (is_free t prefix)) (remaining t prefix) ≡ false).
    let none : None ≡ Some span = rw not at is in absurd (cc none))
    (cases_Bool (list_all (has_position t (is_free t prefix)) (remaining t prefix)))
  where
    lows : Item → ℤ
    lows item = least (amounts t (is_free t prefix) (placed_moment t.hold) item)

    highs : Item → ℤ
    highs item = greatest (amounts t (is_free t prefix) (placed_moment t.hold) item)

    low : ℤ
    low = hold_index t prefix +ℤ int_sum_by lows (remaining t prefix)

    high : ℤ
    high = hold_index t prefix +ℤ int_sum_by highs (remaining t prefix)

-- so too where a container may follow
pub next-bounded : (t : Problem) (prefix : List ℕ) (span : ℤ × ℤ) (q : ℕ) → IsLawful t → IsSound t (prefix ++ q ∷ []) → wide_reach t prefix ≡ Some span
    → (unsigned_abs span.0 ≤ 400000000000) × (unsigned_abs span.1 ≤ 400000000000)
next-bounded t prefix span q lawful sound is = wide_reach-bounded t prefix span lawful (omega (arith, sound.short, length-append prefix (q ∷ []))) is

-- The next container on another position --------------------------------------------------------

still_free : (t : Problem) (prefix : List ℕ) (q : ℕ) (p : Placed) → IsFree t (prefix ++ q ∷ []) p.0 p.1 → IsFree t prefix p.0 p.1
still_free t prefix q p given = record {
  accepted = given.accepted;
  unused = All-front (λ used. used ≡ p.1 → ⊥) prefix (q ∷ []) given.unused;
  compatible = All-front (λ used. Exclude t.hold used p.1 → ⊥) prefix (q ∷ []) given.compatible;
}

-- what is allowed with the next container on one position is allowed, but for its moments, with it on any other that is free
moved : (t : Problem) (prefix : List ℕ) (item : Item) (p q : ℕ) (x : ℤ) → IsNext t prefix item → IsFree t prefix item p → AllowsWidely t (prefix ++ q ∷ []) x
    → AllowsWidely t prefix ((x -ℤ placed_moment t.hold (item, q)) +ℤ placed_moment t.hold (item, p))
moved t prefix item p q x next here given =
    let moment : Placed → ℤ = placed_moment t.hold in
    let choice = given.0 in
    let left : remaining t prefix ≡ item ∷ remaining t (prefix ++ q ∷ []) = remaining-next t prefix item q next in
    let each : All (λ (c : Placed). IsFree t prefix c.0 c.1) ((item, p) ∷ zip (remaining t (prefix ++ q ∷ [])) choice) =
    All-cons (λ (c : Placed). IsFree t prefix c.0 c.1) (item, p) (zip (remaining t (prefix ++ q ∷ [])) choice) here
    (All-weaker (λ (c : Placed). IsFree t (prefix ++ q ∷ []) c.0 c.1) (λ (c : Placed). IsFree t prefix c.0 c.1) (still_free t prefix q) (zip (remaining t (prefix ++ q ∷ [])) choice) given.1.each) in
    let chosen : int_sum_by (placed_moment t.hold) (zip (remaining t prefix) (p ∷ choice)) ≡ placed_moment t.hold (item, p) +ℤ int_sum_by (placed_moment t.hold) (zip (remaining t (prefix ++ q ∷ [])) choice) =
    ap (λ items. int_sum_by (placed_moment t.hold) (zip items (p ∷ choice))) left in (
      p ∷ choice,
      record {
        one_each = omega (arith, given.1.one_each, ap length left);
        each = subst (λ items. All (λ (c : Placed). IsFree t prefix c.0 c.1) (zip items (p ∷ choice))) (sym left) each;
      },
      same_sum _ _ _ _ _ _ _ given.2 (hold_index-next t prefix item q next) chosen,
    )
  where
    same_sum : (x start longer there here rest chosen : ℤ) → x ≡ longer +ℤ rest → longer ≡ start +ℤ there → chosen ≡ here +ℤ rest → (x -ℤ there) +ℤ here ≡ start +ℤ chosen
    same_sum x start longer there here rest chosen is more all = omega (arith, ints)

span-of : (reached : Option (ℤ × ℤ)) (Allowed : ℤ → Type 0) (span : ℤ × ℤ) → reached ≡ Some span → Spans reached Allowed → IsSpanOf Allowed span
span-of reached Allowed span is spans = subst (λ o. Spans o Allowed) is spans

-- the wide reach, less moments of the next container, and with its moment on a position, holds the wide reach with it there
pub holds-next : (t : Problem) (prefix : List ℕ) (span : ℤ × ℤ) (moments others : Span) → wide_reach t prefix ≡ Some span → AreNextMoments t prefix moments
    → others.low ≡ span.0 -ℤ moments.low → others.high ≡ span.1 -ℤ moments.high → HoldsNext t prefix others
holds-next t prefix span moments others is are low high item q inner next sound inner_is =
    let outer = span-of (wide_reach t prefix) (AllowsWidely t prefix) span is (wide_reach-is t prefix) in
    let within = span-of (wide_reach t (prefix ++ q ∷ [])) (AllowsWidely t (prefix ++ q ∷ [])) inner inner_is (wide_reach-is t (prefix ++ q ∷ [])) in
    let free_low = free_before t prefix item are.low.position next are.low.sound in
    let free_high = free_before t prefix item are.high.position next are.high.sound in
    let above = (outer.between _ (moved t prefix item are.low.position q inner.0 next free_low within.least)).0 in
    let below = (outer.between _ (moved t prefix item are.high.position q inner.1 next free_high within.greatest)).1 in
    (from _ _ _ _ _ _ above low (are.low.is item next), to _ _ _ _ _ _ below high (are.high.is item next))
  where
    from : (outer inner there here others moment : ℤ) → outer ≤ℤ ((inner -ℤ there) +ℤ here) → others ≡ outer -ℤ moment → moment ≡ here → (others +ℤ there) ≤ℤ inner
    from outer inner there here others moment less is same = omega (arith, ints)

    to : (outer inner there here others moment : ℤ) → ((inner -ℤ there) +ℤ here) ≤ℤ outer → others ≡ outer -ℤ moment → moment ≡ here → inner ≤ℤ (others +ℤ there)
    to outer inner there here others moment less is same = omega (arith, ints)

-- where a prefix has no wide reach, it has none with one container more
pub holds-none : (t : Problem) (prefix : List ℕ) (others : Span) → wide_reach t prefix ≡ None → HoldsNext t prefix others
holds-none t prefix others none item q inner next sound is =
    let lies : IsSomeAnd (wide_reach t prefix) (LiesIn inner) = wide_reach-shorter t prefix q inner sound is in
    let not : IsSomeAnd None (LiesIn inner) = rw none at lies in absurd not

-- The wide bound --------------------------------------------------------------------------------

gap-wider : (t : Problem) (inner outer : ℤ × ℤ) → t.ideal_low ≤ℤ t.ideal_high → inner.0 ≤ℤ inner.1 → LiesIn inner outer → gap_to_ideal t outer ≤ gap_to_ideal t inner
gap-wider t inner outer band rising lies =
    let near : IsNearest t inner (gap_to_ideal t inner) = gap-nearest t inner band rising in
    let far : IsNearest t outer (gap_to_ideal t outer) = gap-nearest t outer band (omega (arith, ints, rising, lies.0, lies.1)) in
    subst (λ n. gap_to_ideal t outer ≤ n) near.is
    (far.least near.index (omega (arith, ints, lies.0, near.inside.0), omega (arith, ints, lies.1, near.inside.1)))

-- the gap of such a span is no greater than the wide bound with the next container on the position
pub least-bound : (t : Problem) (prefix : List ℕ) (others : Span) (q : ℕ) (item : Item) → IsLawful t → HoldsNext t prefix others → IsNext t prefix item → IsSound t (prefix ++ q ∷ [])
    → IfSome (wide_bound t (prefix ++ q ∷ [])) (λ b. gap_to_ideal t (others.low +ℤ placed_moment t.hold (item, q), others.high +ℤ placed_moment t.hold (item, q)) ≤ b)
least-bound t prefix others q item lawful holds next sound = of_reach (wide_reach t (prefix ++ q ∷ [])) refl
  where
    of_reach : (reached : Option (ℤ × ℤ)) → wide_reach t (prefix ++ q ∷ []) ≡ reached
        → IfSome (wide_bound t (prefix ++ q ∷ [])) (λ b. gap_to_ideal t (others.low +ℤ placed_moment t.hold (item, q), others.high +ℤ placed_moment t.hold (item, q)) ≤ b)
    of_reach None is = rw is tt
    of_reach (Some inner) is =
        let span = span-of (wide_reach t (prefix ++ q ∷ [])) (AllowsWidely t (prefix ++ q ∷ [])) inner is (wide_reach-is t (prefix ++ q ∷ [])) in
        rw is (gap-wider t inner (others.low +ℤ placed_moment t.hold (item, q), others.high +ℤ placed_moment t.hold (item, q)) (band-in_order t lawful) ((span.between inner.1 span.greatest).0) (holds item q inner next sound is))

-- One position more -----------------------------------------------------------------------------

-- what is known of the next container on the positions below a number: on which it may stand, and a span of moments there
pub record AreNextBelow (t : Problem) (prefix : List ℕ) (number : ℕ) (fitting : PositionSet) (moments : Option Span) : Type 0 where
  pub fits : (q : ℕ) → (has fitting q ≡ true) ↔ (IsSound t (prefix ++ q ∷ []) × (q < number))
  pub ends : MatchOption moments ((q : ℕ) → has fitting q ≡ true → ⊥) (AreNextMoments t prefix)

pub below-without : (t : Problem) (prefix : List ℕ) (number : ℕ) (fitting : PositionSet) (moments : Option Span) → AreNextBelow t prefix number fitting moments → (IsSound t (prefix ++ number ∷ []) → ⊥)
    → AreNextBelow t prefix (number + 1) fitting moments
below-without t prefix number fitting moments below not = record {
  fits = λ q. (
    λ there. let told = (below.fits q).0 there in (told.0, omega (arith, told.1)),
    λ given. ⊎_elim
        (λ (same : q ≡ number). absurd (not (subst (λ k. IsSound t (prefix ++ k ∷ [])) same given.0)))
        (λ (less : q < number). (below.fits q).1 (given.0, less))
        (eq-or-lt_of_le (omega (arith, given.1))),
  );
  ends = below.ends;
}

pub below-with : (t : Problem) (prefix : List ℕ) (number : ℕ) (fitting more : PositionSet) (moments : Option Span) (span : Span) → AreNextBelow t prefix number fitting moments
    → IsSound t (prefix ++ number ∷ []) → ((q : ℕ) → has more q ≡ (has fitting q || (q == number))) → AreNextMoments t prefix span → AreNextBelow t prefix (number + 1) more (Some span)
below-with t prefix number fitting more moments span below sound with_one are = record {
  fits = λ q. (
    λ there. ⊎_elim
        (λ (before : has fitting q ≡ true). let told = (below.fits q).0 before in (told.0, omega (arith, told.1)))
        (λ (here : (q == number) ≡ true). let same : q ≡ number = eqb-true q number here in (subst (λ k. IsSound t (prefix ++ k ∷ [])) (sym same) sound, omega (arith, same)))
        (or_cases (has fitting q) (q == number) (sym (with_one q) ∙ there)),
    λ given. ⊎_elim
        (λ (same : q ≡ number). with_one q ∙ of_either (has fitting q) (q == number) (λ _. (Decides-eqb q number).1 same))
        (λ (less : q < number). with_one q ∙ of_either (has fitting q) (q == number) (λ not. absurd (false≢true (sym not ∙ (below.fits q).1 (given.0, less)))))
        (eq-or-lt_of_le (omega (arith, given.1))),
  );
  ends = are;
}
  where
    of_either : (a b : Bool) → (a ≡ false → b ≡ true) → (a || b) ≡ true
    of_either true b other = refl
    of_either false b other = other refl

-- once all positions are looked at, the set has exactly those on which the container may stand
pub below-all : (t : Problem) (prefix : List ℕ) (number : ℕ) (fitting : PositionSet) (moments : Option Span) → AreNextBelow t prefix number fitting moments → length t.hold.positions ≤ number
    → (q : ℕ) → (has fitting q ≡ true) ↔ IsSound t (prefix ++ q ∷ [])
below-all t prefix number fitting moments below past q = (
  λ there. ((below.fits q).0 there).0,
  λ sound.
      let known : q < length t.hold.positions = All-contains (λ n. n < length t.hold.positions) (prefix ++ q ∷ []) q (IsSound-within t (prefix ++ q ∷ []) sound) (Contains-push prefix q) in
      (below.fits q).1 (sound, omega (arith, known, past)),
)

-- where the container may stand nowhere, nothing more is to be shown
pub nowhere : (t : Problem) (prefix : List ℕ) (next : NextPositions) → ((q : ℕ) → has next.fitting q ≡ false) → IsBounded 0 next.others → ((q : ℕ) → IsSound t (prefix ++ q ∷ []) → ⊥) → AreNext t prefix next
nowhere t prefix next none bounded not = record {
  fits = λ q. (λ there. absurd (false≢true (sym (none q) ∙ there)), λ sound. absurd (not q sound));
  holds = λ item q inner is_next sound is. absurd (not q sound);
  bounded = (omega (arith, bounded.0), omega (arith, bounded.1));
}

-- Numbers of 64 bits ----------------------------------------------------------------------------

-- the product that gives a moment
pub moment-read : (t : Problem) (item : Item) (q : ℕ) (mass influence : ℤ) → IsLawful t → item.mass.0 ≤ 20000 → mass ≡ pos item.mass.0 → influence ≡ influence_at t.hold q
    → to_z w64 (of_z w64 (to_z w64 (of_z w64 mass) *ℤ to_z w64 (of_z w64 influence))) ≡ placed_moment t.hold (item, q)
moment-read t item q mass influence lawful few mass_is influence_is =
    let near : unsigned_abs (influence_at t.hold q) ≤ 100000 = influence_at-bound t (lawful-bounds t lawful) q in
    let small : unsigned_abs (placed_moment t.hold (item, q)) ≤ 2000000000 = amount-bound WideReach t lawful item q few in
    let mass_read : to_z w64 (of_z w64 (pos item.mass.0)) ≡ pos item.mass.0 = to_z-of_z w64 (pos item.mass.0) (omega (arith, ints, few)) in
    let influence_read : to_z w64 (of_z w64 (influence_at t.hold q)) ≡ influence_at t.hold q = to_z-of_z w64 (influence_at t.hold q) (omega (arith, ints, near)) in
    rw (mass_is, influence_is) (rw (mass_read, influence_read) (to_z-of_z w64 (placed_moment t.hold (item, q)) (omega (arith, ints, small))))

-- the lesser and the greater of two numbers is one of them
pub min-is : (P : ℤ → Type 0) (x y m : ℤ) → m ≡ int_min x y → P x → P y → P m
min-is P x y m is first second = ⊎_elim
    (λ (less : int_lt y x ≡ true). rw (is, less) second)
    (λ (not : int_lt y x ≡ false). rw (is, not) first)
    (cases_Bool (int_lt y x))

pub max-is : (P : ℤ → Type 0) (x y m : ℤ) → m ≡ int_max x y → P x → P y → P m
max-is P x y m is first second = ⊎_elim
    (λ (less : int_lt y x ≡ true). rw (is, less) first)
    (λ (not : int_lt y x ≡ false). rw (is, not) second)
    (cases_Bool (int_lt y x))

-- what is read of a number
abbrev read : ℤ → ℤ
read x = to_z w64 (of_z w64 x)

reads : (x : ℤ) → unsigned_abs x ≤ 1000000000000 → read x ≡ x
reads x small = to_z-of_z w64 x (omega (arith, ints, small))

-- the span of the moments with one moment more
pub moments-more : (t : Problem) (prefix : List ℕ) (span : Span) (moment low high : ℤ) → AreNextMoments t prefix span → IsNextMoment t prefix moment → unsigned_abs moment ≤ 2000000000
    → low ≡ int_min (read span.low) (read moment) → high ≡ int_max (read span.high) (read moment) → AreNextMoments t prefix record { low = read low; high = read high }
moments-more t prefix span moment low high are one small low_is high_is =
    let first = min-is P (read span.low) (read moment) low low_is (again span.low (are.low, are.bounded.0)) (again moment (one, small)) in
    let last = max-is P (read span.high) (read moment) high high_is (again span.high (are.high, are.bounded.1)) (again moment (one, small)) in
    let first_read = again low first in
    let last_read = again high last in
    record { low = first_read.0; high = last_read.0; bounded = (first_read.1, last_read.1) }
  where
    P : ℤ → Type 0
    P m = IsNextMoment t prefix m × (unsigned_abs m ≤ 2000000000)

    again : (x : ℤ) → P x → P (read x)
    again x is = subst P (sym (reads x (omega (arith, is.1)))) is

-- the difference of an end of a wide reach and a moment
pub difference-fits : (x y : ℤ) → unsigned_abs x ≤ 400000000000 → unsigned_abs y ≤ 2000000000 → FitsSigned w64 (read x -ℤ read y)
difference-fits x y large small =
    let first = reads x (omega (arith, large)) in
    let last = reads y (omega (arith, small)) in
    rw (first, last) (omega (arith, ints, large, small))

pub difference-read : (x y : ℤ) → unsigned_abs x ≤ 400000000000 → unsigned_abs y ≤ 2000000000 → read (read x -ℤ read y) ≡ x -ℤ y
difference-read x y large small =
    let first = reads x (omega (arith, large)) in
    let last = reads y (omega (arith, small)) in
    rw (first, last) (reads (x -ℤ y) (omega (arith, ints, large, small)))

pub difference-bound : (x y : ℤ) → unsigned_abs x ≤ 400000000000 → unsigned_abs y ≤ 2000000000 → unsigned_abs (read (read x -ℤ read y)) ≤ 1000000000000
difference-bound x y large small = subst (λ d. unsigned_abs d ≤ 1000000000000) (sym (difference-read x y large small)) (omega (arith, ints, large, small))
