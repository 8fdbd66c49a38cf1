-- the tests decide what the definitions say, every path is tried, and the best of them is kept
use Rattle.std.proofs.Common.{bytes_eq, sym, ◌⊎◌, ◌≡◌, ◌≢◌, ⊎_elim, ℕ, zero, suc, ◌+◌, ◌<◌, ◌≤◌, ℤ, ◌≤ℤ◌, Bool, true, false, not, ◌&&◌, ◌||◌, ◌==◌, nat_le, List, [], ◌∷◌, ◌++◌, length, map, flat_map, Option, Some, None, refl, subst, arith, leb-true, le-leb, is_gt}
use Rattle.std.proofs.lemmas.Bool.{cases_Bool, cases_eq, false≢true}
use Rattle.std.proofs.lemmas.Bool.Decides.{Decides-eqb, Decides-and, Decides-or, Decides-not, Decides-like, Decides-by_and, not_from_Decides}
use Rattle.std.proofs.lemmas.Int.{ints}
use Rattle.std.proofs.lemmas.List.Elements.{recursion_from_All}
use Rattle.std.proofs.lemmas.List.Folds.{Any-from_list_any, list_any-from_Any}
use Rattle.std.proofs.lemmas.List.Kept.{AllPairs-cons}
use Rattle.std.proofs.lemmas.Slice.Eq.{bytes_eq-Decides}
use Rattle.std.specs.Prelude.{unsigned_abs, int_le, All, Any, AllPairs, MatchOption, IsSomeAnd, IfSome, slice_get}
use Rattle.std.specs.Bool.{Decides}
use Rattle.std.specs.List.{AllByRecursion, list_all, list_any, range_with_len}
use Rattle.std.specs.Option.{option_map_or}
use Rattle.hold_parts.specs.declared.lists.Fit.{Fit}
use Rattle.hold_parts.specs.declared.parts.Combined.{Combined}
use Rattle.hold_parts.specs.declared.parts.Cumulative.{Cumulative}
use Rattle.hold_parts.specs.declared.parts.Lateral.{Lateral}
use Rattle.hold_parts.specs.declared.parts.Item.{Item}
use Rattle.hold_parts.specs.declared.parts.Position.{Position}
use Rattle.hold_limits.specs.Layout.{Layout}
use Rattle.hold_limits.specs.Lateral.{IsWithinLateral}
use Rattle.hold_limits.specs.Problem.{Problem}
use Rattle.hold_limits.specs.Placement.{Placed, placed, IsAccepted, Exclude, load_of, IsSound, hold_index, lateral_difference, IsAdmissible, key, key_cmp, IsAtMost, IsBest}
use Rattle.hold_parts.specs.Limits.{is_listed, is_counted}
use Rattle.hold_parts.specs.Accepting.{kind_of, Accepts, accepts}
use Rattle.hold_limits.specs.Enumeration.{list_all_pairs, is_accepted, exclude, keeps_limits, is_sound, is_within_lateral, is_admissible, all_paths, candidates, better, best_among, best_by_trial}
use Rattle.hold_limits.proofs.KeyOrder.{IsAtMost-refl, IsAtMost-trans, IsAtMost-from_greater}
use Rattle.base_words.proofs.PairLemmas.{AllPairs-head, AllPairs-tail}
use Rattle.hold_limits.proofs.SoundLemmas.{IsSound-within}
use Rattle.base_words.proofs.PairLemmas.{each-weaker}

-- Tests on lists --------------------------------------------------------------------------------

pub nat_le-Decides : (a b : ℕ) → Decides (nat_le a b) (a ≤ b)
nat_le-Decides a b = (leb-true a b, le-leb a b)

pub int_le-Decides : (a b : ℤ) → Decides (int_le a b) (a ≤ℤ b)
int_le-Decides a b = (int_le-tells a b, int_le-from a b)
  where
    int_le-tells : (a b : ℤ) → int_le a b ≡ true → a ≤ℤ b
    int_le-tells a b is = grind (arith, ints)

    int_le-from : (a b : ℤ) → a ≤ℤ b → int_le a b ≡ true
    int_le-from a b is = grind (arith, ints)

pub Any-weaker : {X : Type 0} (P Q : X → Type 0) (weaker : (x : X) → P x → Q x) (xs : List X) → Any P xs → Any Q xs
Any-weaker P Q weaker xs any = (any.0, any.1, any.2, any.3, weaker any.1 any.4)

pub Any-Decides : {X : Type 0} (p : X → Bool) (P : X → Type 0) (each : (x : X) → Decides (p x) (P x)) (xs : List X) → Decides (list_any p xs) (Any P xs)
Any-Decides p P each xs = (
  λ is. Any-weaker (λ x. p x ≡ true) P (λ x. (each x).0) xs (Any-from_list_any p xs is),
  λ any. list_any-from_Any p xs (Any-weaker P (λ x. p x ≡ true) (λ x. (each x).1) xs any),
)

pub All-Decides : {X : Type 0} (p : X → Bool) (P : X → Type 0) (each : (x : X) → Decides (p x) (P x)) (xs : List X) → Decides (list_all p xs) (All P xs)
All-Decides p P each xs = Decides-by_and p P (list_all p) each refl (λ _ _. refl) xs

pub AllPairs-Decides : {X : Type 0} (test : X → X → Bool) (R : X → X → Type 0) (each : (x y : X) → Decides (test x y) (R x y)) (xs : List X) → Decides (list_all_pairs test xs) (AllPairs R xs)
AllPairs-Decides test R each [] = (λ _ i j d before within. absurd (omega arith), λ _. refl)
AllPairs-Decides test R each (x ∷ xs) = Decides-like (list_all (test x) xs && list_all_pairs test xs)
    (λ both. AllPairs-cons R x xs both.0 both.1)
    (λ pairs. (AllPairs-head R x xs pairs, AllPairs-tail R x xs pairs))
    (Decides-and (list_all (test x) xs) (list_all_pairs test xs) (All-Decides (test x) (R x) (each x) xs) (AllPairs-Decides test R each xs))

IsSomeAnd-Decides : {X : Type 0} (p : X → Bool) (P : X → Type 0) (each : (x : X) → Decides (p x) (P x)) (o : Option X) → Decides (option_map_or p o false) (IsSomeAnd o P)
IsSomeAnd-Decides p P each None = (λ is. absurd (false≢true is), λ none. absurd none)
IsSomeAnd-Decides p P each (Some x) = each x

-- Tests on prefixes -----------------------------------------------------------------------------

accepts-Decides : (item : Item) (position : Position) → Decides (accepts item position) (Accepts item position)
accepts-Decides item position = Any-Decides
    (λ (fit : Fit). bytes_eq fit.kind (kind_of item) && nat_le item.mass.0 fit.most.0)
    (λ (fit : Fit). (fit.kind ≡ kind_of item) × (item.mass.0 ≤ fit.most.0))
    (λ fit. Decides-and _ _ (bytes_eq-Decides fit.kind (kind_of item)) (nat_le-Decides item.mass.0 fit.most.0))
    position.fits

pub is_accepted-Decides : (hold : Layout) (p : Placed) → Decides (is_accepted hold p) (IsAccepted hold p)
is_accepted-Decides hold p = IsSomeAnd-Decides (accepts p.0) (Accepts p.0) (accepts-Decides p.0) (slice_get hold.positions p.1)

pub exclude-Decides : (hold : Layout) (a b : ℕ) → Decides (exclude hold a b) (Exclude hold a b)
exclude-Decides hold a b = Any-Decides
    (λ (pair : ℕ × ℕ). ((pair.0 == a) && (pair.1 == b)) || ((pair.0 == b) && (pair.1 == a)))
    (λ (pair : ℕ × ℕ). ((pair.0 ≡ a) × (pair.1 ≡ b)) ⊎ ((pair.0 ≡ b) × (pair.1 ≡ a)))
    (λ pair. Decides-or _ _
    (Decides-and _ _ (Decides-eqb pair.0 a) (Decides-eqb pair.1 b))
    (Decides-and _ _ (Decides-eqb pair.0 b) (Decides-eqb pair.1 a)))
    hold.excludes

keeps_limits-Decides : (t : Problem) (prefix : List ℕ) → Decides (keeps_limits t prefix)
    (All (λ c. load_of (is_listed c.places) t prefix ≤ c.most.0) t.hold.combined × All (λ c. load_of (is_counted c) t prefix ≤ c.most.0) t.hold.cumulative)
keeps_limits-Decides t prefix =
    let combined = All-Decides
    (λ (c : Combined). nat_le (load_of (is_listed c.places) t prefix) c.most.0)
    (λ (c : Combined). load_of (is_listed c.places) t prefix ≤ c.most.0)
    (λ c. nat_le-Decides (load_of (is_listed c.places) t prefix) c.most.0)
    t.hold.combined in
    let cumulative = All-Decides
    (λ (c : Cumulative). nat_le (load_of (is_counted c) t prefix) c.most.0)
    (λ (c : Cumulative). load_of (is_counted c) t prefix ≤ c.most.0)
    (λ c. nat_le-Decides (load_of (is_counted c) t prefix) c.most.0)
    t.hold.cumulative in
    Decides-and _ _ combined cumulative

-- the test of soundness is true exactly of the sound prefixes
pub is_sound-Decides : (t : Problem) (prefix : List ℕ) → Decides (is_sound t prefix) (IsSound t prefix)
unfolding is_sound
is_sound-Decides t prefix =
    let short = nat_le-Decides (length prefix) (length t.items) in
    let accepted = All-Decides (is_accepted t.hold) (IsAccepted t.hold) (is_accepted-Decides t.hold) (placed t prefix) in
    let apart = AllPairs-Decides (λ a b. not (a == b)) (λ a b. a ≢ b) (λ a b. Decides-not (a == b) (Decides-eqb a b)) prefix in
    let compatible = AllPairs-Decides (λ a b. not (exclude t.hold a b)) (λ a b. Exclude t.hold a b → ⊥) (λ a b. Decides-not (exclude t.hold a b) (exclude-Decides t.hold a b)) prefix in
    let limits = keeps_limits-Decides t prefix in
    Decides-like (is_sound t prefix)
    (λ all. record {
      short = all.0;
      accepted = all.1.0;
      apart = all.1.1.0;
      compatible = all.1.1.1.0;
      combined = all.1.1.1.1.0;
      cumulative = all.1.1.1.1.1;
    })
    (λ (sound : IsSound t prefix). (sound.short, (sound.accepted, (sound.apart, (sound.compatible, (sound.combined, sound.cumulative))))))
    (Decides-and _ _ short (Decides-and _ _ accepted (Decides-and _ _ apart (Decides-and _ _ compatible limits))))

IfSome-Decides : {X : Type 0} (p : X → Bool) (P : X → Type 0) (each : (x : X) → Decides (p x) (P x)) (o : Option X) → Decides (option_map_or p o true) (IfSome o P)
IfSome-Decides p P each None = (λ _. tt, λ _. refl)
IfSome-Decides p P each (Some x) = each x

pub is_within_lateral-Decides : (hold : Layout) (difference : ℤ) → Decides (is_within_lateral hold difference) (IsWithinLateral hold difference)
is_within_lateral-Decides hold difference = IfSome-Decides
    (λ (l : Lateral). nat_le (unsigned_abs difference) l.most.0)
    (λ (l : Lateral). unsigned_abs difference ≤ l.most.0)
    (λ l. nat_le-Decides (unsigned_abs difference) l.most.0)
    hold.lateral

-- the test of admissibility is true exactly of the admissible paths
pub is_admissible-Decides : (t : Problem) (path : List ℕ) → Decides (is_admissible t path) (IsAdmissible t path)
unfolding is_admissible
is_admissible-Decides t path =
    let complete = Decides-eqb (length path) (length t.items) in
    let low = int_le-Decides t.low (hold_index t path) in
    let high = int_le-Decides (hold_index t path) t.high in
    let lateral = is_within_lateral-Decides t.hold (lateral_difference t path) in
    Decides-like (is_admissible t path)
    (λ all. record { sound = all.0; complete = all.1.0; low = all.1.1.0; high = all.1.1.1.0; lateral = all.1.1.1.1 })
    (λ (admissible : IsAdmissible t path). (admissible.sound, (admissible.complete, (admissible.low, (admissible.high, admissible.lateral)))))
    (Decides-and _ _ (is_sound-Decides t path) (Decides-and _ _ complete (Decides-and _ _ low (Decides-and _ _ high lateral))))

-- Every path is tried ---------------------------------------------------------------------------

each_of_append : {X : Type 0} (P : X → Type 0) (xs ys : List X) → AllByRecursion P (xs ++ ys) → AllByRecursion P xs × AllByRecursion P ys
each_of_append P [] ys each = (tt, each)
each_of_append P (x ∷ xs) ys each = let rest = each_of_append P xs ys each.1 in ((each.0, rest.0), rest.1)

each_of_flat_map : {X Y : Type 0} (P : Y → Type 0) (f : X → List Y) (xs : List X) → AllByRecursion P (flat_map f xs) → AllByRecursion (λ x. AllByRecursion P (f x)) xs
each_of_flat_map P f [] each = tt
each_of_flat_map P f (x ∷ xs) each = let parts = each_of_append P (f x) (flat_map f xs) each in (parts.0, each_of_flat_map P f xs parts.1)

each_of_map : {X Y : Type 0} (P : Y → Type 0) (f : X → Y) (xs : List X) → AllByRecursion P (map f xs) → AllByRecursion (λ x. P (f x)) xs
each_of_map P f [] each = tt
each_of_map P f (x ∷ xs) each = (each.0, each_of_map P f xs each.1)

each_of_range : (P : ℕ → Type 0) (a n : ℕ) → AllByRecursion P (range_with_len a n) → (q : ℕ) → a ≤ q → q < a + n → P q
each_of_range P a zero each q low high = absurd (omega arith)
each_of_range P a (suc n) each q low high = ⊎_elim
    (λ (is : a ≡ q). subst P is each.0)
    (λ (other : a ≡ q → ⊥). each_of_range P (a + 1) n each.1 q (omega (arith, other)) (omega arith))
    (cases_eq a q)

-- what holds of every list of n numbers below m holds of each
each_path : (P : List ℕ → Type 0) (n m : ℕ) → AllByRecursion P (all_paths n m) → (path : List ℕ) → length path ≡ n → AllByRecursion (λ q. q < m) path → P path
unfolding all_paths
each_path P zero m each [] is below = each.0
each_path P zero m each (q ∷ path) is below = absurd (omega arith)
each_path P (suc n) m each [] is below = absurd (omega arith)
each_path P (suc n) m each (q ∷ path) is below =
    let begun : ℕ → List (List ℕ) = λ q. map (λ path. q ∷ path) (all_paths n m) in
    let here : AllByRecursion P (begun q) = each_of_range (λ q. AllByRecursion P (begun q)) 0 m (each_of_flat_map P begun (range_with_len 0 m) each) q (omega arith) (omega (arith, below.0)) in
    each_path (λ path. P (q ∷ path)) n m (each_of_map P (λ path. q ∷ path) (all_paths n m) here) path (omega arith) below.1

-- what holds of every candidate holds of every admissible path
each_admissible : (t : Problem) (P : List ℕ → Type 0) → AllByRecursion P (candidates t) → (path : List ℕ) → IsAdmissible t path → P path
each_admissible t P each path adm = each_path P (length t.items) (length t.hold.positions) each path adm.complete
    (recursion_from_All (λ q. q < length t.hold.positions) path (IsSound-within t path adm.sound))

-- The best is kept ------------------------------------------------------------------------------

-- none of the paths is admissible, or the one at hand is and has the least key of those that are
IsKept : Problem → List (List ℕ) → Option (List ℕ) → Type 0
IsKept t paths None = AllByRecursion (λ path. IsAdmissible t path → ⊥) paths
IsKept t paths (Some best) = IsAdmissible t best × AllByRecursion (λ path. IsAdmissible t path → IsAtMost (key t best) (key t path)) paths

skipped : (t : Problem) (path : List ℕ) (rest : List (List ℕ)) (best : Option (List ℕ)) → (IsAdmissible t path → ⊥) → IsKept t rest best → IsKept t (path ∷ rest) best
unfolding IsKept
skipped t path rest None not kept = (not, kept)
skipped t path rest (Some best) not kept = (kept.0, (λ adm. absurd (not adm), kept.1))

taken : (t : Problem) (path : List ℕ) (rest : List (List ℕ)) (best : Option (List ℕ)) → IsAdmissible t path → IsKept t rest best → IsKept t (path ∷ rest) (Some (option_map_or (better t path) best path))
unfolding IsKept
taken t path rest None adm kept = (adm, (λ _. IsAtMost-refl (key t path), each-weaker (λ other. IsAdmissible t other → ⊥) (λ other. IsAdmissible t other → IsAtMost (key t path) (key t other)) (λ other not also. absurd (not also)) rest kept))
taken t path rest (Some best) adm kept = ⊎_elim
    (λ (greater : is_gt (key_cmp (key t path) (key t best)) ≡ true).
    let is : better t path best ≡ best = rw greater refl in
    subst (λ b. IsKept t (path ∷ rest) (Some b)) (sym is) (kept.0, (λ _. IsAtMost-from_greater (key t path) (key t best) greater, kept.1)))
    (λ (least : is_gt (key_cmp (key t path) (key t best)) ≡ false).
    let is : better t path best ≡ path = rw least refl in
    subst (λ b. IsKept t (path ∷ rest) (Some b)) (sym is) (
      adm,
      (
        λ _. IsAtMost-refl (key t path),
        each-weaker
            (λ other. IsAdmissible t other → IsAtMost (key t best) (key t other))
            (λ other. IsAdmissible t other → IsAtMost (key t path) (key t other))
            (λ other after also. IsAtMost-trans (key t path) (key t best) (key t other) least (after also))
            rest kept.1,
      ),
    ))
    (cases_Bool (is_gt (key_cmp (key t path) (key t best))))

best_among-kept : (t : Problem) (paths : List (List ℕ)) → IsKept t paths (best_among t paths)
unfolding best_among IsKept
best_among-kept t [] = tt
best_among-kept t (path ∷ rest) = ⊎_elim
    (λ (is : is_admissible t path ≡ true). rw is (taken t path rest (best_among t rest) ((is_admissible-Decides t path).0 is) (best_among-kept t rest)))
    (λ (not : is_admissible t path ≡ false). rw not (skipped t path rest (best_among t rest) (not_from_Decides (is_admissible t path) (is_admissible-Decides t path) not) (best_among-kept t rest)))
    (cases_Bool (is_admissible t path))

kept-is : (t : Problem) (best : Option (List ℕ)) → IsKept t (candidates t) best → MatchOption best ((path : List ℕ) → IsAdmissible t path → ⊥) (IsBest t)
unfolding IsKept
kept-is t None kept = λ path adm. each_admissible t (λ path. IsAdmissible t path → ⊥) kept path adm adm
kept-is t (Some best) kept = record {
  admissible = kept.0;
  least = λ other adm. each_admissible t (λ path. IsAdmissible t path → IsAtMost (key t best) (key t path)) kept.1 other adm adm;
}

-- trying each path finds the best one, and finds none only where no path is admissible
pub best_by_trial-is : (t : Problem) → MatchOption (best_by_trial t) ((path : List ℕ) → IsAdmissible t path → ⊥) (IsBest t)
best_by_trial-is t = kept-is t (best_by_trial t) (best_among-kept t (candidates t))

pub best_exists : (t : Problem) (path : List ℕ) → IsAdmissible t path → (best : List ℕ) × IsBest t best
best_exists t path adm = there (best_by_trial t) (best_by_trial-is t)
  where
    there : (found : Option (List ℕ)) → MatchOption found ((path : List ℕ) → IsAdmissible t path → ⊥) (IsBest t) → (best : List ℕ) × IsBest t best
    there None none = absurd (none path adm)
    there (Some best) is = (best, is)
