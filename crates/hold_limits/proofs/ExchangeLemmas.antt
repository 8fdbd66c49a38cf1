-- two twins exchange their positions: what of a path stays the same, and why the best path is rising
use Rattle.std.proofs.Common.{◌≡◌, ◌≢◌, ◌⊎◌, ⊎_elim, inl, inr, ℕ, zero, suc, ◌+◌, ◌<◌, ◌≤◌, ℤ, pos, negsuc, ◌+ℤ◌, ◌-ℤ◌, ◌*ℤ◌, ◌≤ℤ◌, Bool, true, false, ◌==◌, if◌then◌else◌, List, [], ◌∷◌, length, get_or, map, Some, refl, ap, ap₂, sym, ◌∙◌, subst, arith, eqb-true, Ordering, Equal, Greater, is_gt, nat_cmp}
use Rattle.std.proofs.lemmas.Bool.{cases_Bool, true≢false}
use Rattle.std.proofs.lemmas.Bool.Decides.{nat_tests, Decides-eqb, not_from_Decides}
use Rattle.std.proofs.lemmas.Int.{ints}
use Rattle.std.proofs.lemmas.List.{same_lists, get_or-map, get_or_default, length-map}
use Rattle.std.proofs.lemmas.List.Edits.{length-swap, Swapped, swapped_from_swap}
use Rattle.std.proofs.lemmas.List.Elements.{All-weaker, All-map}
use Rattle.std.proofs.lemmas.List.Sorted.{IsPermutation-swap, sum_by-IsPermutation, All-permutation}
use Rattle.std.proofs.lemmas.List.Sums.{sum_by-cons}
use Rattle.std.proofs.lemmas.Option.{slice_get-get_or, get_or_from_slice_get, slice_get_within}
use Rattle.std.proofs.lemmas.Slice.Zip.{get_or-zip, length-zip}
use Rattle.std.specs.Cmp.Lexicographic.{slice_cmp}
use Rattle.std.specs.Ordering.{ordering_then}
use Rattle.std.specs.Prelude.{All, AllPairs, Any, IsPermutation, IsSomeAnd, slice_get, sum_by, swap}
use Rattle.base_words.specs.Lists.{int_sum_by}
use Rattle.base_words.proofs.Arrangements.{sum_by-map}
use Rattle.hold_parts.specs.Accepting.{kind_of}
use Rattle.hold_parts.specs.Limits.{is_listed, is_counted}
use Rattle.hold_parts.specs.Twins.{AreTwins}
use Rattle.hold_parts.specs.declared.lists.Fit.{Fit}
use Rattle.hold_parts.specs.declared.parts.Combined.{Combined}
use Rattle.hold_parts.specs.declared.parts.Cumulative.{Cumulative}
use Rattle.hold_parts.specs.declared.parts.Item.{Item}
use Rattle.hold_parts.specs.declared.parts.Position.{Position}
use Rattle.hold_limits.specs.Arms.{placed_by}
use Rattle.hold_limits.specs.Layout.{Layout}
use Rattle.hold_limits.specs.Lateral.{side_at, IsWithinLateral}
use Rattle.hold_limits.specs.Problem.{Problem}
use Rattle.hold_limits.specs.BranchOrder.{ordered}
use Rattle.hold_limits.specs.Placement.{Placed, placed, IsAccepted, Exclude, loose_load, load_of, influence_at, loose_moment, loose_lateral, IsSound, hold_index, lateral_difference, distance_to, distance, key, key_cmp, IsAtMost, IsAdmissible, IsBest}
use Rattle.hold_limits.specs.Twins.{StandTwins, IsRising}
use Rattle.hold_limits.proofs.EnumerationLemmas.{best_exists}
use Rattle.hold_limits.proofs.TwinLemmas.{AreTwins-sym}

-- Two elements of a list exchanged --------------------------------------------------------------

swapped : {X : Type 0} (xs : List X) (i j : ℕ) (d : X) → i < length xs → j < length xs → Swapped (λ m. get_or xs m d) (λ m. get_or (swap xs i j) m d) i j
swapped [] i j d p q = absurd (omega arith)
swapped (x ∷ xs) i j d p q = swapped_from_swap (x ∷ xs) (swap (x ∷ xs) i j) i j d p q refl

permuted : {X : Type 0} (xs : List X) (i j : ℕ) → i < length xs → j < length xs → IsPermutation xs (swap xs i j)
permuted [] i j p q = absurd (omega arith)
permuted (x ∷ xs) i j p q = IsPermutation-swap (x ∷ xs) (swap (x ∷ xs) i j) i j p q refl

-- where the element at a place stood before
abbrev source : ℕ → ℕ → ℕ → ℕ
source i j m = if m == i then j else if m == j then i else m

get_or-swap : {X : Type 0} (xs : List X) (i j m : ℕ) (d : X) → i < length xs → j < length xs → get_or (swap xs i j) m d ≡ get_or xs (source i j m) d
get_or-swap xs i j m d p q =
    let s = swapped xs i j d p q in
    ⊎_elim
    (λ (at_i : (m == i) ≡ true). rw at_i (ap (λ n. get_or (swap xs i j) n d) (eqb-true m i at_i) ∙ s.0))
    (λ (not_i : (m == i) ≡ false). ⊎_elim
    (λ (at_j : (m == j) ≡ true). rw (not_i, at_j) (ap (λ n. get_or (swap xs i j) n d) (eqb-true m j at_j) ∙ s.1))
    (λ (not_j : (m == j) ≡ false). rw (not_i, not_j) (s.2 m (not_from_Decides (m == i) (Decides-eqb m i) not_i) (not_from_Decides (m == j) (Decides-eqb m j) not_j)))
    (cases_Bool (m == j)))
    (cases_Bool (m == i))

source-within : (n i j m : ℕ) → i < n → j < n → m < n → source i j m < n
source-within n i j m p q within = grind (arith, nat_tests)

source-apart : (i j k l : ℕ) → k ≢ l → source i j k ≢ source i j l
source-apart i j k l apart same = grind (arith, nat_tests)

one_way : (k l : ℕ) → k ≢ l → (k < l) ⊎ (l < k)
one_way k l apart = grind (arith, nat_tests)

le_or_lt : (m n : ℕ) → (m ≤ n) ⊎ (n < m)
le_or_lt m n = grind (arith, nat_tests)

-- a relation that holds both ways round holds of any two elements
either-way : {X : Type 0} (R : X → X → Type 0) (flip : (x y : X) → R x y → R y x) (xs : List X) → AllPairs R xs → (k l : ℕ) (d : X) → k ≢ l → k < length xs → l < length xs → R (get_or xs k d) (get_or xs l d)
either-way R flip xs pairs k l d apart within_k within_l = ⊎_elim
    (λ (first : k < l). pairs k l d first within_l)
    (λ (second : l < k). flip (get_or xs l d) (get_or xs k d) (pairs l k d second within_k))
    (one_way k l apart)

AllPairs-swap : {X : Type 0} (R : X → X → Type 0) (flip : (x y : X) → R x y → R y x) (xs : List X) (i j : ℕ) → i < length xs → j < length xs → AllPairs R xs → AllPairs R (swap xs i j)
AllPairs-swap R flip xs i j p q pairs k l d before within =
    let within_l : l < length xs = omega (arith, length-swap xs i j) in
    let within_k : k < length xs = omega arith in
    rw (get_or-swap xs i j k d p q, get_or-swap xs i j l d p q)
    (either-way R flip xs pairs (source i j k) (source i j l) d (source-apart i j k l (λ same. absurd (omega (arith, same)))) (source-within (length xs) i j k p q within_k) (source-within (length xs) i j l p q within_l))

-- Signed sums -----------------------------------------------------------------------------------

up : ℤ → ℕ
up (pos n) = n
up (negsuc n) = 0

down : ℤ → ℕ
down (pos n) = 0
down (negsuc n) = suc n

up-down : (z : ℤ) → z ≡ pos (up z) -ℤ pos (down z)
unfolding up down
up-down (pos n) = omega (arith, ints)
up-down (negsuc n) = omega (arith, ints)

int_sum_by-parts : {X : Type 0} (f : X → ℤ) (xs : List X) → int_sum_by f xs ≡ pos (sum_by (λ x. up (f x)) xs) -ℤ pos (sum_by (λ x. down (f x)) xs)
int_sum_by-parts f [] = refl
int_sum_by-parts f (x ∷ xs) = omega (arith, ints, up-down (f x), int_sum_by-parts f xs, sum_by-cons (λ x. up (f x)) x xs, sum_by-cons (λ x. down (f x)) x xs)

-- What a placement is to the limits and the indices ---------------------------------------------

-- kind, mass and number: all that a rule or a moment reads of a placed container
abbrev Shape : Type 0
Shape = (List ℕ × ℕ) × ℕ

abbrev shape : Placed → Shape
shape p = ((kind_of p.0, p.0.mass.0), p.1)

abbrev shapes : Problem → List ℕ → List Shape
shapes t path = map shape (placed t path)

-- the twins at two ranks, and where they stand
record At (t : Problem) (path : List ℕ) (i j : ℕ) : Type 0 where
  one : Placed
  first : i < length (placed t path)
  second : j < length (placed t path)
  first_number : i < length path
  second_number : j < length path
  alike : (k : ℕ) (d : Item) → k < length (placed t path) → AreTwins (get_or (ordered t.items) k d) (get_or (ordered t.items) (source i j k) d)

stand-at : (t : Problem) (path : List ℕ) (i j : ℕ) → StandTwins t path i j → At t path i j
stand-at t path i j stand =
    let a : Placed = stand.0 in
    let b : Placed = stand.1 in
    let first : i < length (placed t path) = slice_get_within (placed t path) i a stand.2 in
    let second : j < length (placed t path) = slice_get_within (placed t path) j b stand.3 in
    let counted = length-zip (ordered t.items) path in
    record {
      one = a;
      first = first;
      second = second;
      first_number = omega arith;
      second_number = omega arith;
      alike = λ k d within. ⊎_elim
          (λ (at_i : (k == i) ≡ true). rw at_i (rw (eqb-true k i at_i, item_at i a d stand.2, item_at j b d stand.3) stand.4))
          (λ (not_i : (k == i) ≡ false). ⊎_elim
          (λ (at_j : (k == j) ≡ true). rw (not_i, at_j) (rw (eqb-true k j at_j, item_at i a d stand.2, item_at j b d stand.3) (AreTwins-sym a.0 b.0 stand.4)))
          (λ (not_j : (k == j) ≡ false). rw (not_i, not_j) (refl, refl))
          (cases_Bool (k == j)))
          (cases_Bool (k == i));
    }
  where
    item_at : (k : ℕ) (p : Placed) (d : Item) → slice_get (placed t path) k ≡ Some p → get_or (ordered t.items) k d ≡ p.0
    item_at k p d there =
        let within = slice_get_within (placed t path) k p there in
        let counted = length-zip (ordered t.items) path in
        let e : Placed = (d, 0) in
        ap (λ (x : Placed). x.0) (sym (get_or-zip (ordered t.items) path k e (omega arith) (omega arith)) ∙ get_or_from_slice_get (placed t path) k p e there)

-- a container and its twin on one position have one shape
twin-shape : (x y : Item) (q : ℕ) → AreTwins x y → shape (x, q) ≡ shape (y, q)
twin-shape x y q twins = ap₂ (λ kind mass. let s : Shape = ((kind, mass), q) in s) twins.0 twins.1

length-shapes : (t : Problem) (path : List ℕ) → length (shapes t path) ≡ length (placed t path)
length-shapes t path = length-map (placed t path) shape

shapes-swap : (t : Problem) (path : List ℕ) (i j : ℕ) → At t path i j → shapes t (swap path i j) ≡ swap (shapes t path) i j
shapes-swap t path i j at = same_lists (shapes t (swap path i j)) (swap (shapes t path) i j) lengths (λ k d within. each k d (omega (arith, lengths, length-swap (shapes t path) i j, length-shapes t path)))
  where
    before_exchange : length (placed t (swap path i j)) ≡ length (placed t path)
    before_exchange = omega (arith, length-zip (ordered t.items) (swap path i j), length-zip (ordered t.items) path, length-swap path i j)

    lengths : length (shapes t (swap path i j)) ≡ length (swap (shapes t path) i j)
    lengths = omega (arith, length-shapes t (swap path i j), length-shapes t path, length-swap (shapes t path) i j, before_exchange)

    -- the shape at a rank of a path
    shape_at : (other : List ℕ) (k : ℕ) (d : Shape) (e : Placed) → k < length (placed t other) → get_or (shapes t other) k d ≡ shape (get_or (ordered t.items) k e.0, get_or other k e.1)
    shape_at other k d e within =
        let counted = length-zip (ordered t.items) other in
        get_or-map shape (placed t other) k e d within ∙ ap shape (get_or-zip (ordered t.items) other k e (omega arith) (omega arith))

    each : (k : ℕ) (d : Shape) → k < length (placed t path) → get_or (shapes t (swap path i j)) k d ≡ get_or (swap (shapes t path) i j) k d
    each k d within =
        let e : Placed = at.one in
        let n = source i j k in
        let inside : n < length (placed t path) = source-within (length (placed t path)) i j k at.first at.second within in
        shape_at (swap path i j) k d e (omega (arith, before_exchange))
        ∙ ap (λ q. shape (get_or (ordered t.items) k e.0, q)) (get_or-swap path i j k e.1 at.first_number at.second_number)
        ∙ twin-shape (get_or (ordered t.items) k e.0) (get_or (ordered t.items) n e.0) (get_or path n e.1) (at.alike k e.0 within)
        ∙ sym (shape_at path n d e inside)
        ∙ sym (get_or-swap (shapes t path) i j k d (omega (arith, at.first, length-shapes t path)) (omega (arith, at.second, length-shapes t path)))

-- What stays the same ---------------------------------------------------------------------------

shapes-permuted : (t : Problem) (path : List ℕ) (i j : ℕ) → At t path i j → IsPermutation (shapes t path) (shapes t (swap path i j))
shapes-permuted t path i j at = subst (IsPermutation (shapes t path)) (sym (shapes-swap t path i j at))
    (permuted (shapes t path) i j (omega (arith, at.first, length-shapes t path)) (omega (arith, at.second, length-shapes t path)))

sum_by-exchange : (f : Shape → ℕ) (t : Problem) (path : List ℕ) (i j : ℕ) → At t path i j → sum_by (λ p. f (shape p)) (placed t (swap path i j)) ≡ sum_by (λ p. f (shape p)) (placed t path)
sum_by-exchange f t path i j at =
    sym (sum_by-map f shape (placed t (swap path i j)))
    ∙ sum_by-IsPermutation f (shapes t path) (shapes t (swap path i j)) (shapes-permuted t path i j at)
    ∙ sum_by-map f shape (placed t path)

load_of-exchange : (is_in : ℕ → Bool) (t : Problem) (path : List ℕ) (i j : ℕ) → At t path i j → load_of is_in t (swap path i j) ≡ load_of is_in t path
load_of-exchange is_in t path i j at = ap (λ n. n + loose_load is_in t.loose) (sum_by-exchange (λ (s : Shape). if is_in s.1 then s.0.1 else 0) t path i j at)

-- the moments, whatever the arm is
moments-exchange : (arm : ℕ → ℤ) (t : Problem) (path : List ℕ) (i j : ℕ) → At t path i j → int_sum_by (placed_by arm) (placed t (swap path i j)) ≡ int_sum_by (placed_by arm) (placed t path)
moments-exchange arm t path i j at =
    let moment : Shape → ℤ = λ s. pos s.0.1 *ℤ arm s.1 in
    int_sum_by-parts (placed_by arm) (placed t (swap path i j))
    ∙ ap₂ (λ a b. pos a -ℤ pos b) (sum_by-exchange (λ s. up (moment s)) t path i j at) (sum_by-exchange (λ s. down (moment s)) t path i j at)
    ∙ sym (int_sum_by-parts (placed_by arm) (placed t path))

pub hold_index-exchange : (t : Problem) (path : List ℕ) (i j : ℕ) → StandTwins t path i j → hold_index t (swap path i j) ≡ hold_index t path
hold_index-exchange t path i j stand = ap (λ m. m +ℤ int_sum_by (loose_moment t.hold) t.loose) (moments-exchange (influence_at t.hold) t path i j (stand-at t path i j stand))

pub lateral_difference-exchange : (t : Problem) (path : List ℕ) (i j : ℕ) → StandTwins t path i j → lateral_difference t (swap path i j) ≡ lateral_difference t path
lateral_difference-exchange t path i j stand = ap (λ m. m +ℤ int_sum_by (loose_lateral t.hold) t.loose) (moments-exchange (side_at t.hold) t path i j (stand-at t path i j stand))

-- whether a placed container is accepted, read of its shape
AcceptedShape : Layout → Shape → Type 0
AcceptedShape hold s = IsSomeAnd (slice_get hold.positions s.1) (λ (position : Position). Any (λ (fit : Fit). (fit.kind ≡ s.0.0) × (s.0.1 ≤ fit.most.0)) position.fits)

accepted-exchange : (t : Problem) (path : List ℕ) (i j : ℕ) → At t path i j → All (IsAccepted t.hold) (placed t path) → All (IsAccepted t.hold) (placed t (swap path i j))
unfolding AcceptedShape
accepted-exchange t path i j at accepted k d within =
    let before : All (AcceptedShape t.hold) (shapes t path) = All-map (AcceptedShape t.hold) shape (placed t path) accepted in
    let after : All (AcceptedShape t.hold) (shapes t (swap path i j)) = All-permutation (AcceptedShape t.hold) (shapes t path) (shapes t (swap path i j)) (shapes-permuted t path i j at) before in
    subst (AcceptedShape t.hold) (get_or-map shape (placed t (swap path i j)) k d (shape d) within) (after k (shape d) (omega (arith, length-shapes t (swap path i j))))

Exclude-flip : (hold : Layout) (a b : ℕ) → Exclude hold a b → Exclude hold b a
Exclude-flip hold a b found = (found.0, found.1, found.2, found.3, ⊎_elim (λ same. inr same) (λ turned. inl turned) found.4)

-- a path in which two twins have exchanged their positions is as sound as before
pub IsSound-exchange : (t : Problem) (path : List ℕ) (i j : ℕ) → StandTwins t path i j → IsSound t path → IsSound t (swap path i j)
IsSound-exchange t path i j stand sound =
    let at = stand-at t path i j stand in
    record {
      short = omega (arith, length-swap path i j, sound.short);
      accepted = accepted-exchange t path i j at sound.accepted;
      apart = AllPairs-swap (λ a b. a ≢ b) (λ a b differ same. differ (sym same)) path i j at.first_number at.second_number sound.apart;
      compatible = AllPairs-swap (λ a b. Exclude t.hold a b → ⊥) (λ a b none found. none (Exclude-flip t.hold b a found)) path i j at.first_number at.second_number sound.compatible;
      combined = All-weaker
          (λ (c : Combined). load_of (is_listed c.places) t path ≤ c.most.0)
          (λ (c : Combined). load_of (is_listed c.places) t (swap path i j) ≤ c.most.0)
          (λ c within. omega (arith, load_of-exchange (is_listed c.places) t path i j at))
          t.hold.combined sound.combined;
      cumulative = All-weaker
          (λ (c : Cumulative). load_of (is_counted c) t path ≤ c.most.0)
          (λ (c : Cumulative). load_of (is_counted c) t (swap path i j) ≤ c.most.0)
          (λ c within. omega (arith, load_of-exchange (is_counted c) t path i j at))
          t.hold.cumulative sound.cumulative;
    }

IsAdmissible-exchange : (t : Problem) (path : List ℕ) (i j : ℕ) → StandTwins t path i j → IsAdmissible t path → IsAdmissible t (swap path i j)
IsAdmissible-exchange t path i j stand adm =
    let index = sym (hold_index-exchange t path i j stand) in
    record {
      sound = IsSound-exchange t path i j stand adm.sound;
      complete = length-swap path i j ∙ adm.complete;
      low = subst (λ h. t.low ≤ℤ h) index adm.low;
      high = subst (λ h. h ≤ℤ t.high) index adm.high;
      lateral = subst (IsWithinLateral t.hold) (sym (lateral_difference-exchange t path i j stand)) adm.lateral;
    }

distance-exchange : (t : Problem) (path : List ℕ) (i j : ℕ) → StandTwins t path i j → distance t (swap path i j) ≡ distance t path
distance-exchange t path i j stand = ap (λ h. distance_to t.ideal_low t.ideal_high (t.base +ℤ h)) (hold_index-exchange t path i j stand)

-- The best path is rising -----------------------------------------------------------------------

nat_cmp-same : (n : ℕ) → nat_cmp n n ≡ Equal
nat_cmp-same n = grind (arith, nat_tests)

nat_cmp-greater : (m n : ℕ) → n < m → nat_cmp m n ≡ Greater
nat_cmp-greater m n more = grind (arith, nat_tests)

-- of two lists the one with the greater number where they first differ is the greater
greater-at : (xs ys : List ℕ) (i : ℕ) → i < length xs → i < length ys → ((k : ℕ) → k < i → get_or xs k 0 ≡ get_or ys k 0) → get_or ys i 0 < get_or xs i 0 → is_gt (slice_cmp nat_cmp xs ys) ≡ true
greater-at [] ys i p q same more = absurd (omega arith)
greater-at (x ∷ xs) [] i p q same more = absurd (omega arith)
greater-at (x ∷ xs) (y ∷ ys) zero p q same more = rw (nat_cmp-greater x y more) refl
greater-at (x ∷ xs) (y ∷ ys) (suc i) p q same more =
    let first : x ≡ y = same 0 (omega arith) in
    rw (first, nat_cmp-same y) (greater-at xs ys i (omega arith) (omega arith) (λ k less. same (suc k) (omega arith)) more)

-- a path in which two twins do not rise is greater than the one in which they have exchanged their positions
falling-greater : (t : Problem) (path : List ℕ) (i j : ℕ) → StandTwins t path i j → At t path i j → i < j → get_or path j 0 < get_or path i 0 → is_gt (key_cmp (key t path) (key t (swap path i j))) ≡ true
falling-greater t path i j stand at before falls =
    let s = swapped path i j 0 at.first_number at.second_number in
    let greater : is_gt (slice_cmp nat_cmp path (swap path i j)) ≡ true =
    greater-at path (swap path i j) i at.first_number (omega (arith, length-swap path i j, at.first_number))
    (λ k less. sym (s.2 k (λ same. omega (arith, same)) (λ same. omega (arith, same))))
    (omega (arith, s.0)) in
    rw (distance-exchange t path i j stand, nat_cmp-same (distance t path)) greater

pub best-rises : (t : Problem) (path : List ℕ) → IsBest t path → IsRising t path
best-rises t path best i j d before within twins =
    let counted = length-zip (ordered t.items) path in
    let in_order : j < length (ordered t.items) = omega arith in
    let in_path : j < length path = omega arith in
    let inside : i < length (placed t path) = omega arith in
    let a : Placed = get_or (placed t path) i d in
    let b : Placed = get_or (placed t path) j d in
    let stand : StandTwins t path i j = (a, b, slice_get-get_or (placed t path) i d inside, slice_get-get_or (placed t path) j d within, twins) in
    let at = stand-at t path i j stand in
    let number_a : a.1 ≡ get_or path i 0 = ap (λ (p : Placed). p.1) (get_or-zip (ordered t.items) path i d (omega arith) at.first_number) ∙ get_or_default path i d.1 0 at.first_number in
    let number_b : b.1 ≡ get_or path j 0 = ap (λ (p : Placed). p.1) (get_or-zip (ordered t.items) path j d in_order in_path) ∙ get_or_default path j d.1 0 in_path in
    let apart : get_or path i 0 ≢ get_or path j 0 = best.admissible.sound.apart i j 0 before in_path in
    ⊎_elim
    (λ (rises : get_or path i 0 < get_or path j 0). omega (arith, number_a, number_b))
    (λ (falls : get_or path j 0 < get_or path i 0).
    let least = best.least (swap path i j) (IsAdmissible-exchange t path i j stand best.admissible) in
    absurd (true≢false (sym (falling-greater t path i j stand at before falls) ∙ least)))
    (one_way (get_or path i 0) (get_or path j 0) apart)

nearer : (t : Problem) (best path : List ℕ) → IsAtMost (key t best) (key t path) → distance t best ≤ distance t path
nearer t best path most = at_most (distance t best) (distance t path) (slice_cmp nat_cmp best path) most
  where
    at_most : (m n : ℕ) (rest : Ordering) → is_gt (ordering_then (nat_cmp m n) rest) ≡ false → m ≤ n
    at_most m n rest most = ⊎_elim
        (λ (few : m ≤ n). few)
        (λ (more : n < m). absurd (true≢false (rw (nat_cmp-greater m n more) at most)))
        (le_or_lt m n)

-- where a path is admissible, a rising one is too, of no greater distance
pub rising-exists : (t : Problem) (path : List ℕ) → IsAdmissible t path → (other : List ℕ) × IsAdmissible t other × IsRising t other × (distance t other ≤ distance t path)
rising-exists t path adm =
    let best = best_exists t path adm in
    (best.0, best.1.admissible, best-rises t best.0 best.1, nearer t best.0 path (best.1.least path adm))
