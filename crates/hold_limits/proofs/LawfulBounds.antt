-- a hold and a task have no fault exactly where they keep the rules
use Rattle.std.proofs.Common.{◌≡◌, ◌≢◌, ⊎_elim, ℕ, zero, suc, Bool, Option, not, if◌then◌else◌, ◌<◌, ◌≤◌, ℤ, ◌≤ℤ◌, true, false, ◌==◌, ◌||◌, ◌&&◌, nat_lt, List, [], ◌∷◌, length, take, zip, get_or, map, Some, None, refl, sym, subst, arith, eqb, unsigned_abs, int_lt, bytes_eq}
use Rattle.std.proofs.lemmas.Bool.{false≢true, eqb-true, or_cases, ltb-true}
use Rattle.std.proofs.lemmas.Bool.Decides.{Decides-eqb, Decides-and, Decides-or, Decides-ltb}
use Rattle.std.proofs.Math.Nat.{eq-or-lt_of_le}
use Rattle.std.proofs.lemmas.Int.{ints}
use Rattle.std.proofs.lemmas.List.{get_or-take, length-take, length-map}
use Rattle.std.proofs.lemmas.List.Elements.{All-weaker, All-head, All-tail, All-map, All-from_recursion, recursion_from_All}
use Rattle.std.proofs.lemmas.List.Kept.{AllPairs-cons}
use Rattle.std.proofs.lemmas.Map.Steps.{length-le_from_distinct_below}
use Rattle.std.proofs.lemmas.Slice.Eq.{bytes_eq-Decides}
use Rattle.std.proofs.lemmas.Option.{slice_get_cases, slice_get-get_or}
use Rattle.std.specs.Bool.{Decides}
use Rattle.std.specs.Prelude.{◌↔◌, IfSome, All, AllPairs, slice_get, is_some}
use Rattle.std.specs.List.{list_any, list_all, AllByRecursion, IsDistinct}
use Rattle.base_words.specs.Lists.{first_repeat}
use Rattle.base_words.proofs.PairLemmas.{each-weaker, pairs-all, AllPairs-head, AllPairs-tail}
use Rattle.hold_parts.specs.declared.parts.Position.{Position}
use Rattle.hold_parts.specs.declared.parts.Item.{Item}
use Rattle.hold_parts.specs.declared.parts.Loose.{Loose}
use Rattle.hold_parts.specs.declared.parts.Combined.{Combined}
use Rattle.hold_parts.specs.declared.parts.Cumulative.{Cumulative}
use Rattle.hold_parts.specs.declared.lists.Fit.{Fit}
use Rattle.hold_parts.specs.Repeats.{same_name, same_kind, same_id, same_position}
use Rattle.hold_limits.specs.Layout.{Layout}
use Rattle.hold_limits.specs.Lateral.{sides_of}
use Rattle.hold_limits.specs.Problem.{Problem}
use Rattle.hold_limits.specs.Bounds.{HasUpTo16Kinds, IsContainerMass, SamePair, KeepsHoldRules, KeepsTaskRules}
use Rattle.hold_limits.specs.Faults.{IsLawful, IsLawfulHold, hold_fault, position_fault, limit_fault, item_fault, loose_fault, range_fault, task_fault, has_wrong_influence, has_wrong_fits, has_wrong_fit_mass, has_wrong_mass, is_unknown, same_pair, is_wrong_exclude, is_wrong_exclude_at, wrong_exclude, places_rise, is_wrong_combined, is_wrong_cumulative, position_before, is_wrong_side, is_wrong_side_at, wrong_side, is_too_heavy, is_bulk, is_loose_misplaced, is_loose_too_heavy}
use Rattle.hold_limits.proofs.FaultLemmas.{Refuses, Guards, refuses-like, refuses-over, refuses-zero, refuses-past, refuses-if, refuses-unless, refuses-either, refuses-any, refuses-some, guards-if, guards-map, guards-or, guards-position, guards-repeat, first_below-none_each, first_below-right}

-- Loose loads -----------------------------------------------------------------------------------

abbrev HasPosition : Loose → Loose → Type 0
HasPosition a b = a.position ≢ b.position

abbrev loose_places : List Loose → List ℕ
loose_places loose = map (λ (load : Loose). load.position) loose

places-distinct : (loose : List Loose) → AllPairs HasPosition loose → IsDistinct eqb (loose_places loose)
unfolding IsDistinct
places-distinct [] apart = tt
places-distinct (load ∷ loose) apart =
    let others : All (λ (other : Loose). eqb load.position other.position ≡ false) loose =
    All-weaker (HasPosition load) (λ other. eqb load.position other.position ≡ false) (λ other. (refuses-if (eqb load.position other.position) (Decides-eqb load.position other.position)).1) loose (AllPairs-head HasPosition load loose apart) in
    (recursion_from_All (λ q. eqb load.position q ≡ false) (loose_places loose) (All-map (λ q. eqb load.position q ≡ false) (λ (other : Loose). other.position) loose others), places-distinct loose (AllPairs-tail HasPosition load loose apart))

any-below : (xs : List ℕ) (n : ℕ) → All (λ x. x < n) xs → (q : ℕ) → list_any (eqb q) xs ≡ true → q < n
any-below [] n all q found = absurd (false≢true found)
any-below (x ∷ xs) n all q found = ⊎_elim
    (λ (here : eqb q x ≡ true). omega (arith, eqb-true q x here, All-head (λ x. x < n) x xs all))
    (λ (later : list_any (eqb q) xs ≡ true). any-below xs n (All-tail (λ x. x < n) x xs all) q later)
    (or_cases (eqb q x) (list_any (eqb q) xs) found)

-- loads with positions of their own below n are at most n
loose-few : (loose : List Loose) (n : ℕ) → AllPairs HasPosition loose → All (λ (load : Loose). load.position < n) loose → length loose ≤ n
loose-few loose n apart known =
    let below = any-below (loose_places loose) n (All-map (λ x. x < n) (λ (load : Loose). load.position) loose known) in
    let few : length (loose_places loose) ≤ n = length-le_from_distinct_below (loose_places loose) n (places-distinct loose apart) below in
    omega (arith, length-map loose (λ (load : Loose). load.position))

bulk-known : (positions : List Position) (q : ℕ) → is_bulk positions q ≡ true → q < length positions
bulk-known positions q bulk = ⊎_elim
    (λ inside. inside.1)
    (λ past. absurd (false≢true (rw past.1 at bulk)))
    (slice_get_cases positions q).1

-- Rules of positions ----------------------------------------------------------------------------

abbrev HasName : Position → Position → Type 0
HasName a b = a.name ≢ b.name

abbrev DifferentKinds : Fit → Fit → Type 0
DifferentKinds a b = a.kind ≢ b.kind

-- texts that are not the same, either way round
bytes-differ : (a b : List ℕ) → Refuses (bytes_eq b a) (a ≢ b)
bytes-differ a b = refuses-like (bytes_eq b a) (λ differ is. differ (sym is)) (λ differ is. differ (sym is)) (refuses-if (bytes_eq b a) (bytes_eq-Decides b a))

empty-Decides : (fits : List Fit) → Decides (length fits == 0) (fits ≡ [])
empty-Decides [] = (λ _. refl, λ _. refl)
empty-Decides (fit ∷ fits) = (λ is. absurd (omega (arith, eqb-true (length (fit ∷ fits)) 0 is)), λ is. absurd (cc))

again-rule : (fits : List Fit) → Refuses (is_some (first_repeat same_kind fits)) (AllPairs DifferentKinds fits)
again-rule fits = refuses-some (first_repeat same_kind fits) (guards-repeat same_kind DifferentKinds (λ a b. bytes-differ a.kind b.kind) fits)

abbrev KindRules : Bool → List Fit → Type 0
KindRules bulk fits = HasUpTo16Kinds bulk fits × AllPairs DifferentKinds fits

kinds-rule : (bulk : Bool) (fits : List Fit)
    → Refuses (if bulk then not (length fits == 0) else (length fits == 0) || (nat_lt 16 (length fits) || is_some (first_repeat same_kind fits))) (KindRules bulk fits)
kinds-rule true fits = refuses-like _
    (λ (none : fits ≡ []).
    let P : List Fit → Type 0 = AllPairs DifferentKinds in
    (none, subst P (sym none) (λ i j d before within. absurd (omega arith))))
    (λ kept. kept.0)
    (refuses-unless (length fits == 0) (empty-Decides fits))
kinds-rule false fits = refuses-like _
    (λ kept. ((kept.0, kept.1.0), kept.1.1))
    (λ kept. (kept.0.0, (kept.0.1, kept.1)))
    (refuses-either _ _ (refuses-zero (length fits)) (refuses-either _ _ (refuses-over 16 (length fits)) (again-rule fits)))

mass-rule : (fit : Fit) → Refuses (has_wrong_mass fit) (IsContainerMass fit)
mass-rule fit = refuses-either (fit.most.0 == 0) (nat_lt 20000 fit.most.0) (refuses-zero fit.most.0) (refuses-over 20000 fit.most.0)

abbrev PositionRules : List Position → Type 0
PositionRules positions =
    ((1 ≤ length positions) × (length positions ≤ 64))
    × (AllPairs HasName positions
    × (All (λ (p : Position). unsigned_abs p.influence ≤ 100000) positions
    × (All (λ (p : Position). KindRules p.bulk p.fits) positions
    × All (λ (p : Position). All IsContainerMass p.fits) positions)))

position_fault-guards : (positions : List Position) → Guards (position_fault positions) (PositionRules positions)
position_fault-guards positions =
    guards-or _ _ (guards-if _ _ (refuses-either _ _ (refuses-zero (length positions)) (refuses-over 64 (length positions))))
    (guards-or _ _ (guards-map _ _ (guards-repeat same_name HasName (λ a b. bytes-differ a.name b.name) positions))
    (guards-or _ _ (guards-map _ _ (guards-position has_wrong_influence (λ (p : Position). unsigned_abs p.influence ≤ 100000) (λ p. refuses-over 100000 (unsigned_abs p.influence)) positions))
    (guards-or _ _ (guards-map _ _ (guards-position has_wrong_fits (λ (p : Position). KindRules p.bulk p.fits) (λ p. kinds-rule p.bulk p.fits) positions))
    (guards-map _ _ (guards-position has_wrong_fit_mass (λ (p : Position). All IsContainerMass p.fits) (λ p. refuses-any has_wrong_mass IsContainerMass mass-rule p.fits) positions)))))

-- Rules of limits -------------------------------------------------------------------------------

same_pair-Decides : (a b : ℕ × ℕ) → Decides (same_pair a b) (SamePair a b)
same_pair-Decides a b = Decides-or _ _
    (Decides-and _ _ (Decides-eqb a.0 b.0) (Decides-eqb a.1 b.1))
    (Decides-and _ _ (Decides-eqb a.0 b.1) (Decides-eqb a.1 b.0))

abbrev PairRules : List Position → ℕ × ℕ → Type 0
PairRules positions pair =
    (pair.0 ≢ pair.1)
    × ((pair.0 < length positions)
    × ((pair.1 < length positions)
    × ((is_bulk positions pair.0 ≡ false) × (is_bulk positions pair.1 ≡ false))))

abbrev IsNew : ℕ × ℕ → ℕ × ℕ → Type 0
IsNew earlier later = SamePair earlier later → ⊥

pair-rule : (positions : List Position) (earlier : List (ℕ × ℕ)) (pair : ℕ × ℕ) → Refuses (is_wrong_exclude positions earlier pair) (PairRules positions pair × All (λ e. IsNew e pair) earlier)
pair-rule positions earlier pair = refuses-either _ _
    (refuses-either _ _ (refuses-if (pair.0 == pair.1) (Decides-eqb pair.0 pair.1))
    (refuses-either _ _ (refuses-past (length positions) pair.0)
    (refuses-either _ _ (refuses-past (length positions) pair.1)
    (refuses-either _ _ (λ right. right, λ kept. kept) (λ right. right, λ kept. kept)))))
    (refuses-any (λ e. same_pair e pair) (λ e. IsNew e pair) (λ e. refuses-if (same_pair e pair) (same_pair-Decides e pair)) earlier)

exclude-guards : (positions : List Position) (excludes : List (ℕ × ℕ)) → Guards (wrong_exclude positions excludes) (All (PairRules positions) excludes × AllPairs IsNew excludes)
exclude-guards positions excludes = (λ none. (λ k d within. (each none k d within).0, apart none), λ kept. right excludes kept.0 kept.1)
  where
    each : wrong_exclude positions excludes ≡ None → (k : ℕ) (d : ℕ × ℕ) → k < length excludes → PairRules positions (get_or excludes k d) × All (λ e. IsNew e (get_or excludes k d)) (take k excludes)
    each none k d within =
        let pair : ℕ × ℕ = get_or excludes k d in
        let there : slice_get excludes k ≡ Some pair = slice_get-get_or excludes k d within in
        let passes : is_wrong_exclude positions (take k excludes) pair ≡ false = rw there at (first_below-none_each (is_wrong_exclude_at positions excludes) (length excludes) none k within) in
        (pair-rule positions (take k excludes) pair).0 passes

    apart : wrong_exclude positions excludes ≡ None → AllPairs IsNew excludes
    apart none i j d before within =
        let later : ℕ × ℕ = get_or excludes j d in
        let inside : i < length (take j excludes) = omega (arith, length-take j excludes) in
        let P : ℕ × ℕ → Type 0 = λ e. IsNew e later in
        subst P (get_or-take j excludes i d before) ((each none j d within).1 i d inside)

    right : (excludes : List (ℕ × ℕ)) → All (PairRules positions) excludes → AllPairs IsNew excludes → wrong_exclude positions excludes ≡ None
    right [] rules new = refl
    right (pair ∷ rest) rules new =
        let all : List (ℕ × ℕ) = pair ∷ rest in
        first_below-right (is_wrong_exclude_at positions all) (length all) (λ k less.
        let last : ℕ × ℕ = get_or all k pair in
        let there : slice_get all k ≡ Some last = slice_get-get_or all k pair less in
        rw there ((pair-rule positions (take k all) last).1 (rules k pair less, pairs-all IsNew all k pair less new)))

abbrev IsBelow : ℕ → ℕ → Type 0
IsBelow a b = a < b

abbrev is_step : ℕ × ℕ → Bool
is_step pair = nat_lt pair.0 pair.1

and-parts : (a b : Bool) → (a && b) ≡ true → (a ≡ true) × (b ≡ true)
and-parts true b both = (refl, both)
and-parts false b both = absurd (cc)

above : (q : ℕ) (places : List ℕ) → list_all is_step (zip (q ∷ places) places) ≡ true → AllByRecursion (IsBelow q) places
above q [] rising = tt
above q (p ∷ places) rising =
    let parts = and-parts (nat_lt q p) (list_all is_step (zip (p ∷ places) places)) rising in
    let first : q < p = ltb-true q p parts.0 in
    (first, each-weaker (IsBelow p) (IsBelow q) (λ x over. omega (arith, first, over)) places (above p places parts.1))

rest-rising : (q : ℕ) (places : List ℕ) → list_all is_step (zip (q ∷ places) places) ≡ true → places_rise places ≡ true
rest-rising q [] rising = refl
rest-rising q (p ∷ places) rising = (and-parts (nat_lt q p) (list_all is_step (zip (p ∷ places) places)) rising).1

rising-pairs : (places : List ℕ) → places_rise places ≡ true → AllPairs IsBelow places
rising-pairs [] rising = λ i j d before within. absurd (omega arith)
rising-pairs (q ∷ places) rising = AllPairs-cons IsBelow q places (All-from_recursion (IsBelow q) places (above q places rising)) (rising-pairs places (rest-rising q places rising))

pairs-rising : (places : List ℕ) → AllPairs IsBelow places → places_rise places ≡ true
pairs-rising [] pairs = refl
pairs-rising (q ∷ []) pairs = refl
pairs-rising (q ∷ p ∷ places) pairs =
    let first : q < p = pairs 0 1 0 (omega arith) (omega arith) in
    rw ((Decides-ltb q p).1 first, pairs-rising (p ∷ places) (AllPairs-tail IsBelow q (p ∷ places) pairs)) refl

abbrev CombinedRules : List Position → Combined → Type 0
CombinedRules positions limit = (1 ≤ length limit.places) × (AllPairs IsBelow limit.places × All (λ q. q < length positions) limit.places)

combined-rule : (positions : List Position) (limit : Combined) → Refuses (is_wrong_combined positions limit) (CombinedRules positions limit)
combined-rule positions limit = refuses-either _ _ (refuses-zero (length limit.places))
    (refuses-either _ _ (refuses-unless (places_rise limit.places) (rising-pairs limit.places, pairs-rising limit.places))
    (refuses-any (is_unknown positions) (λ q. q < length positions) (refuses-past (length positions)) limit.places))

abbrev LimitRules : Layout → Type 0
LimitRules h =
    ((length h.excludes ≤ 256) × ((length h.combined ≤ 64) × (length h.cumulative ≤ 128)))
    × ((All (PairRules h.positions) h.excludes × AllPairs IsNew h.excludes)
    × (All (CombinedRules h.positions) h.combined
    × All (λ (limit : Cumulative). limit.place < length h.positions) h.cumulative))

limit_fault-guards : (h : Layout) → Guards (limit_fault h) (LimitRules h)
limit_fault-guards h =
    guards-or _ _ (guards-if _ _ (refuses-either _ _ (refuses-over 256 (length h.excludes)) (refuses-either _ _ (refuses-over 64 (length h.combined)) (refuses-over 128 (length h.cumulative)))))
    (guards-or _ _ (guards-map _ _ (exclude-guards h.positions h.excludes))
    (guards-or _ _ (guards-map _ _ (guards-position (is_wrong_combined h.positions) (CombinedRules h.positions) (combined-rule h.positions) h.combined))
    (guards-map _ _ (guards-position (is_wrong_cumulative h.positions) (λ (limit : Cumulative). limit.place < length h.positions) (λ limit. refuses-past (length h.positions) limit.place) h.cumulative))))

-- Rules of sides -------------------------------------------------------------------------------

-- the position comes after the one before it, if there is one
abbrev IsAfter : Option ℕ → ℕ → Type 0
IsAfter before q = IfSome before (λ p. p < q)

abbrev IsKnown : List Position → ℕ × Bool → Type 0
IsKnown positions side = side.0 < length positions

abbrev Rises : ℕ × Bool → ℕ × Bool → Type 0
Rises a b = a.0 < b.0

side-rule : (positions : List Position) (before : Option ℕ) (side : ℕ × Bool) → Refuses (is_wrong_side positions before side) (IsKnown positions side × IsAfter before side.0)
side-rule positions None side = refuses-either _ _ (refuses-past (length positions) side.0) (λ right. tt, λ kept. refl)
side-rule positions (Some p) side = refuses-either _ _ (refuses-past (length positions) side.0) (refuses-past side.0 p)

-- sides of which each is after the one before it rise
steps-rise : (sides : List (ℕ × Bool)) → ((k : ℕ) (d : ℕ × Bool) → suc k < length sides → Rises (get_or sides k d) (get_or sides (suc k) d)) → AllPairs Rises sides
steps-rise sides steps i zero d before within = absurd (omega arith)
steps-rise sides steps i (suc j) d before within = ⊎_elim
    (λ (same : i ≡ j). rw same (steps j d within))
    (λ (lower : i < j). omega (arith, steps-rise sides steps i j d lower (omega arith), steps j d within))
    (eq-or-lt_of_le (omega arith))

side-guards : (positions : List Position) (sides : List (ℕ × Bool)) → Guards (wrong_side positions sides) (All (IsKnown positions) sides × AllPairs Rises sides)
side-guards positions sides = (λ none. (λ k d within. (each none k d within).0, steps-rise sides (step none)), λ kept. right sides kept.0 kept.1)
  where
    each : wrong_side positions sides ≡ None → (k : ℕ) (d : ℕ × Bool) → k < length sides → IsKnown positions (get_or sides k d) × IsAfter (position_before sides k) (get_or sides k d).0
    each none k d within =
        let there : slice_get sides k ≡ Some (get_or sides k d) = slice_get-get_or sides k d within in
        let passes : is_wrong_side positions (position_before sides k) (get_or sides k d) ≡ false = rw there at (first_below-none_each (is_wrong_side_at positions sides) (length sides) none k within) in
        (side-rule positions (position_before sides k) (get_or sides k d)).0 passes

    step : wrong_side positions sides ≡ None → (k : ℕ) (d : ℕ × Bool) → suc k < length sides → Rises (get_or sides k d) (get_or sides (suc k) d)
    step none k d within =
        let there : slice_get sides k ≡ Some (get_or sides k d) = slice_get-get_or sides k d (omega arith) in
        rw there at (each none (suc k) d within).1

    after : (sides : List (ℕ × Bool)) → AllPairs Rises sides → (k : ℕ) (d : ℕ × Bool) → k < length sides → IsAfter (position_before sides k) (get_or sides k d).0
    after sides rise zero d within = tt
    after sides rise (suc k) d within =
        let there : slice_get sides k ≡ Some (get_or sides k d) = slice_get-get_or sides k d (omega arith) in
        rw there (rise k (suc k) d (omega arith) within)

    right : (sides : List (ℕ × Bool)) → All (IsKnown positions) sides → AllPairs Rises sides → wrong_side positions sides ≡ None
    right [] known rise = refl
    right (side ∷ rest) known rise =
        let all : List (ℕ × Bool) = side ∷ rest in
        first_below-right (is_wrong_side_at positions all) (length all) (λ k less.
        let last : ℕ × Bool = get_or all k side in
        let there : slice_get all k ≡ Some last = slice_get-get_or all k side less in
        rw there ((side-rule positions (position_before all k) last).1 (known k side less, after all rise k side less)))

abbrev SideRules : Layout → Type 0
SideRules h = All (IsKnown h.positions) (sides_of h) × AllPairs Rises (sides_of h)

-- Rules of a task -------------------------------------------------------------------------------

abbrev ItemRules : List Item → Type 0
ItemRules items = (length items ≤ 60) × (AllPairs (λ (a b : Item). a.id ≢ b.id) items × All (λ (item : Item). item.mass.0 ≤ 20000) items)

item_fault-guards : (items : List Item) → Guards (item_fault items) (ItemRules items)
item_fault-guards items =
    guards-or _ _ (guards-if _ _ (refuses-over 60 (length items)))
    (guards-or _ _ (guards-map _ _ (guards-repeat same_id (λ (a b : Item). a.id ≢ b.id) (λ a b. bytes-differ a.id b.id) items))
    (guards-map _ _ (guards-position is_too_heavy (λ (item : Item). item.mass.0 ≤ 20000) (λ item. refuses-over 20000 item.mass.0) items)))

abbrev LooseRules : List Position → List Loose → Type 0
LooseRules positions loose =
    All (λ (load : Loose). is_bulk positions load.position ≡ true) loose
    × (AllPairs HasPosition loose
    × All (λ (load : Loose). load.mass.0 ≤ 20000) loose)

loose_fault-guards : (positions : List Position) (loose : List Loose) → Guards (loose_fault positions loose) (LooseRules positions loose)
loose_fault-guards positions loose =
    guards-or _ _ (guards-map _ _ (guards-position (is_loose_misplaced positions) (λ (load : Loose). is_bulk positions load.position ≡ true) (λ load. refuses-unless (is_bulk positions load.position) (λ is. is, λ is. is)) loose))
    (guards-or _ _ (guards-map _ _ (guards-repeat same_position HasPosition (λ a b. places-differ a.position b.position) loose))
    (guards-map _ _ (guards-position is_loose_too_heavy (λ (load : Loose). load.mass.0 ≤ 20000) (λ load. refuses-over 20000 load.mass.0) loose)))
  where
    places-differ : (a b : ℕ) → Refuses (b == a) (a ≢ b)
    places-differ a b = refuses-like (b == a) (λ differ is. differ (sym is)) (λ differ is. differ (sym is)) (refuses-if (b == a) (Decides-eqb b a))

abbrev IndexRule : ℤ → Type 0
IndexRule index = unsigned_abs index ≤ 1000000000

band-rule : (low high : ℤ) → Refuses (int_lt high low) (low ≤ℤ high)
band-rule low high = (λ right. grind (arith, ints), λ kept. grind (arith, ints))

range_fault-guards : (base low high ideal_low ideal_high : ℤ)
    → Guards (range_fault base low high ideal_low ideal_high) (IndexRule base × (IndexRule low × (IndexRule high × (IndexRule ideal_low × (IndexRule ideal_high × (ideal_low ≤ℤ ideal_high))))))
range_fault-guards base low high ideal_low ideal_high =
    guards-or _ _ (guards-if _ _ (refuses-over 1000000000 (unsigned_abs base)))
    (guards-or _ _ (guards-if _ _ (refuses-over 1000000000 (unsigned_abs low)))
    (guards-or _ _ (guards-if _ _ (refuses-over 1000000000 (unsigned_abs high)))
    (guards-or _ _ (guards-if _ _ (refuses-over 1000000000 (unsigned_abs ideal_low)))
    (guards-or _ _ (guards-if _ _ (refuses-over 1000000000 (unsigned_abs ideal_high)))
    (guards-if _ _ (band-rule ideal_low ideal_high))))))

-- All rules -------------------------------------------------------------------------------------

hold_fault-guards : (h : Layout) → Guards (hold_fault h) (PositionRules h.positions × (LimitRules h × SideRules h))
hold_fault-guards h = guards-or _ _ (position_fault-guards h.positions)
    (guards-or _ _ (limit_fault-guards h) (guards-map _ _ (side-guards h.positions (sides_of h))))

-- a hold has no fault exactly where it keeps the rules of a hold
pub hold-rules : (h : Layout) → (hold_fault h ≡ None) ↔ KeepsHoldRules h
hold-rules h = (λ none. kept ((hold_fault-guards h).0 none), λ rules. (hold_fault-guards h).1 (rules-of rules))
  where
    kept : PositionRules h.positions × (LimitRules h × SideRules h) → KeepsHoldRules h
    kept rules =
        let positions : PositionRules h.positions = rules.0 in
        let limits : LimitRules h = rules.1.0 in
        let sides : SideRules h = rules.1.1 in
        record {
          some_position = positions.0.0;
          positions = positions.0.1;
          names = positions.1.0;
          influences = positions.1.1.0;
          kinds = λ k d within. (positions.1.1.1.0 k d within).0;
          different_kinds = λ k d within. (positions.1.1.1.0 k d within).1;
          masses = positions.1.1.1.1;
          few_excludes = limits.0.0;
          few_combined = limits.0.1.0;
          few_cumulative = limits.0.1.1;
          excludes = λ k d within. let pair = limits.1.0.0 k d within in (pair.1.0, pair.1.1.0);
          excludes_two = λ k d within. (limits.1.0.0 k d within).0;
          excludes_no_bulk = λ k d within. (limits.1.0.0 k d within).1.1.1;
          excludes_once = limits.1.0.1;
          combined = λ k d within. let limit = limits.1.1.0 k d within in (limit.0, limit.1.1);
          combined_rising = λ k d within. (limits.1.1.0 k d within).1.0;
          cumulative = limits.1.1.1;
          sides = sides.0;
          sides_rising = sides.1;
        }

    rules-of : KeepsHoldRules h → PositionRules h.positions × (LimitRules h × SideRules h)
    rules-of kept =
        let positions : PositionRules h.positions =
        ((kept.some_position, kept.positions), (kept.names, (kept.influences, (λ k d within. (kept.kinds k d within, kept.different_kinds k d within), kept.masses)))) in
        let pairs : All (PairRules h.positions) h.excludes = λ k d within.
        let known = kept.excludes k d within in
        (kept.excludes_two k d within, (known.0, (known.1, kept.excludes_no_bulk k d within))) in
        let combined : All (CombinedRules h.positions) h.combined = λ k d within.
        let limit = kept.combined k d within in
        (limit.0, (kept.combined_rising k d within, limit.1)) in
        let limits : LimitRules h = ((kept.few_excludes, (kept.few_combined, kept.few_cumulative)), ((pairs, kept.excludes_once), (combined, kept.cumulative))) in
        (positions, (limits, (kept.sides, kept.sides_rising)))

-- a lawful hold keeps the rules of a hold
pub hold-bounds : (h : Layout) → IsLawfulHold h → KeepsHoldRules h
hold-bounds h lawful = (hold-rules h).0 lawful.right

abbrev TaskRules : Problem → Type 0
TaskRules t =
    ItemRules t.items
    × (LooseRules t.hold.positions t.loose
    × (IndexRule t.base × (IndexRule t.low × (IndexRule t.high × (IndexRule t.ideal_low × (IndexRule t.ideal_high × (t.ideal_low ≤ℤ t.ideal_high)))))))

task_fault-guards : (t : Problem) → Guards (task_fault t) (TaskRules t)
task_fault-guards t =
    guards-or _ _ (item_fault-guards t.items)
    (guards-or _ _ (loose_fault-guards t.hold.positions t.loose)
    (guards-map _ _ (range_fault-guards t.base t.low t.high t.ideal_low t.ideal_high)))

-- a task over a lawful hold has no fault exactly where it keeps the rules of a task
pub task-rules : (t : Problem) → IsLawfulHold t.hold → (task_fault t ≡ None) ↔ KeepsTaskRules t
task-rules t lawful = (λ none. kept ((task_fault-guards t).0 none), λ rules. (task_fault-guards t).1 (rules-of rules))
  where
    kept : TaskRules t → KeepsTaskRules t
    kept rules =
        let of_hold = hold-bounds t.hold lawful in
        let items : ItemRules t.items = rules.0 in
        let loose : LooseRules t.hold.positions t.loose = rules.1.0 in
        let indices = rules.1.1 in
        let known : All (λ (load : Loose). load.position < length t.hold.positions) t.loose =
        All-weaker (λ load. is_bulk t.hold.positions load.position ≡ true) (λ load. load.position < length t.hold.positions) (λ load is. bulk-known t.hold.positions load.position is) t.loose loose.0 in
        record {
          some_position = of_hold.some_position;
          positions = of_hold.positions;
          influences = of_hold.influences;
          items = items.0;
          identities = items.1.0;
          item_masses = items.1.1;
          loose = omega (arith, of_hold.positions, loose-few t.loose (length t.hold.positions) loose.1.0 known);
          loose_masses = loose.1.1;
          loose_known = known;
          loose_bulk = loose.0;
          loose_once = loose.1.0;
          base = indices.0;
          low = indices.1.0;
          high = indices.1.1.0;
          ideal_low = indices.1.1.1.0;
          ideal_high = indices.1.1.1.1.0;
          band = indices.1.1.1.1.1;
        }

    rules-of : KeepsTaskRules t → TaskRules t
    rules-of kept = (
      (kept.items, (kept.identities, kept.item_masses)),
      (
        (kept.loose_bulk, (kept.loose_once, kept.loose_masses)),
        (kept.base, (kept.low, (kept.high, (kept.ideal_low, (kept.ideal_high, kept.band))))),
      ),
    )

-- a lawful task keeps the rules of a task
pub lawful-bounds : (t : Problem) → IsLawful t → KeepsTaskRules t
lawful-bounds t lawful = (task-rules t lawful.hold).0 lawful.right
