-- a longer prefix reaches no further, and what follows for viable prefixes and their bounds
use Rattle.std.proofs.Common.{refl, ◌≡◌, ◌↔◌, ⊎_elim, ℕ, suc, ◌<◌, ◌≤◌, ℤ, pos, ◌+ℤ◌, ◌-ℤ◌, ◌≤ℤ◌, Bool, true, false, List, [], ◌∷◌, ◌++◌, length, drop, zip, Option, Some, None, option_map, sym, ap, ap₂, ◌∙◌, subst, arith, append_assoc, append-nil, length-append, unsigned_abs}
use Rattle.std.proofs.Math.Seq.{drop-cons}
use Rattle.std.proofs.lemmas.Bool.{cases_Bool}
use Rattle.std.proofs.lemmas.Int.{ints}
use Rattle.std.proofs.lemmas.List.{drop_all}
use Rattle.std.proofs.lemmas.List.Elements.{All-cons, All-weaker}
use Rattle.std.proofs.lemmas.Option.{get_or_from_slice_get, slice_get_within}
use Rattle.std.proofs.lemmas.List.Quantifiers.{all_pairs_push}
use Rattle.std.specs.Prelude.{All, AllPairs, int_lt, IfSome, IsSomeAnd, slice_get}
use Rattle.base_words.specs.Lists.{int_sum_by}
use Rattle.hold_parts.specs.declared.parts.Item.{Item}
use Rattle.hold_parts.specs.declared.parts.Lateral.{Lateral}
use Rattle.hold_parts.specs.Twins.{AreTwins}
use Rattle.hold_limits.specs.Problem.{Problem}
use Rattle.hold_limits.specs.BranchOrder.{ordered}
use Rattle.hold_limits.specs.Placement.{Placed, placed, placed_moment, loose_moment, placed_lateral, loose_lateral, Exclude, IsSound, hold_index, lateral_difference, IsAdmissible, distance_to, distance}
use Rattle.hold_limits.specs.Twins.{IsRising}
use Rattle.hold_limits.specs.Faults.{IsLawful}
use Rattle.hold_limits.proofs.LawfulBounds.{lawful-bounds}
use Rattle.hold_limits.proofs.BranchOrderLemmas.{length-ordered}
use Rattle.base_words.proofs.SignedSums.{int_sum_by-push}
use Rattle.hold_limits.proofs.SoundLemmas.{zip-append, All-front, AllPairs-front, IsSound-front}
use Rattle.hold_reach.specs.Reach.{remaining, IsFree, is_free, IsOpen, is_open, falls, span_from, reach, wide_reach, lateral_reach, Meets, MeetsLateral, IsViable, gap, gap_to_ideal, bound, wide_bound}
use Rattle.hold_reach.specs.Choices.{Gives, Allows, AllowsWidely, AllowsLaterally, IsWithin, LiesIn, IsSpanOf, Spans, distance_at, IsNearest}
use Rattle.hold_reach.proofs.ReachLemmas.{next-item}
use Rattle.hold_reach.proofs.RuleLemmas.{placed-push, AllPairs-last, IsSound-last}
use Rattle.hold_reach.proofs.ChoiceLemmas.{reach-is, wide_reach-is, lateral_reach-is, falls-not}

-- Rising prefixes -------------------------------------------------------------------------------

-- what is asked of two placed containers
InOrder : Placed → Placed → Type 0
InOrder a b = AreTwins a.0 b.0 → a.1 < b.1

pub IsRising-front : (t : Problem) (front rest : List ℕ) → IsRising t (front ++ rest) → IsRising t front
unfolding InOrder
IsRising-front t front rest rising =
    AllPairs-front InOrder (placed t front) (zip (drop (length front) (ordered t.items)) rest)
    (subst (λ (ps : List Placed). AllPairs InOrder ps) (zip-append (ordered t.items) front rest) rising)

-- the last container of a rising prefix stands above its twins
pub IsRising-last : (t : Problem) (prefix : List ℕ) (item : Item) (q : ℕ) → slice_get (ordered t.items) (length prefix) ≡ Some item → IsRising t (prefix ++ q ∷ [])
    → All (λ (p : Placed). AreTwins p.0 item → p.1 < q) (placed t prefix)
unfolding InOrder
IsRising-last t prefix item q next rising =
    AllPairs-last InOrder (placed t prefix) (item, q) (subst (λ (ps : List Placed). AllPairs InOrder ps) (placed-push t prefix item q next) rising)

-- a rising prefix with one container more is rising exactly where that does not fall
pub IsRising-next : (t : Problem) (prefix : List ℕ) (item : Item) (q : ℕ) → IsRising t prefix → slice_get (ordered t.items) (length prefix) ≡ Some item
    → (falls t prefix item q ≡ false) ↔ IsRising t (prefix ++ q ∷ [])
unfolding InOrder
IsRising-next t prefix item q rising next = (
  λ stays. subst (λ (ps : List Placed). AllPairs InOrder ps) (sym (placed-push t prefix item q next))
      (all_pairs_push InOrder (placed t prefix) (item, q) rising ((falls-not t prefix item q).0 stays)),
  λ longer. (falls-not t prefix item q).1 (IsRising-last t prefix item q next longer),
)

-- One position more -----------------------------------------------------------------------------

-- the containers that a prefix leaves are the next one and those that the longer prefix leaves
pub remaining-next : (t : Problem) (prefix : List ℕ) (item : Item) (q : ℕ) → slice_get (ordered t.items) (length prefix) ≡ Some item → remaining t prefix ≡ item ∷ remaining t (prefix ++ q ∷ [])
remaining-next t prefix item q next =
    let inside : length prefix < length (ordered t.items) = slice_get_within (ordered t.items) (length prefix) item next in
    let longer : suc (length prefix) ≡ length (prefix ++ q ∷ []) = omega (arith, length-append prefix (q ∷ [])) in
    drop-cons (ordered t.items) (length prefix) item inside
    ∙ ap₂ (λ x n. x ∷ drop n (ordered t.items)) (get_or_from_slice_get (ordered t.items) (length prefix) item item next) longer

still_free : (t : Problem) (prefix : List ℕ) (q : ℕ) (p : Placed) → IsFree t (prefix ++ q ∷ []) p.0 p.1 → IsFree t prefix p.0 p.1
still_free t prefix q p given = record {
  accepted = given.accepted;
  unused = All-front (λ used. used ≡ p.1 → ⊥) prefix (q ∷ []) given.unused;
  compatible = All-front (λ used. Exclude t.hold used p.1 → ⊥) prefix (q ∷ []) given.compatible;
}

pub still_open : (t : Problem) (prefix : List ℕ) (item : Item) (q : ℕ) → slice_get (ordered t.items) (length prefix) ≡ Some item → (p : Placed) → IsOpen t (prefix ++ q ∷ []) p.0 p.1 → IsOpen t prefix p.0 p.1
still_open t prefix item q next p given =
    let P : Placed → Type 0 = λ other. AreTwins other.0 p.0 → other.1 < p.1 in
    record {
      free = still_free t prefix q p given.free;
      above_twins = All-front P (placed t prefix) ((item, q) ∷ []) (subst (λ (ps : List Placed). All P ps) (placed-push t prefix item q next) given.above_twins);
    }

pub free_before : (t : Problem) (prefix : List ℕ) (item : Item) (q : ℕ) → slice_get (ordered t.items) (length prefix) ≡ Some item → IsSound t (prefix ++ q ∷ []) → IsFree t prefix item q
free_before t prefix item q next sound =
    let last = IsSound-last t prefix item q next sound in
    record { accepted = last.accepted; unused = last.unused; compatible = last.compatible }

-- what is given with one container more is given with one fewer, where that may stand on its position too
gives-shorter : (t : Problem) (prefix : List ℕ) (item : Item) (q : ℕ) (May MayLonger : Item → ℕ → Type 0) (amount : Placed → ℤ) (start longer sum : ℤ)
    → slice_get (ordered t.items) (length prefix) ≡ Some item → ((p : Placed) → MayLonger p.0 p.1 → May p.0 p.1) → May item q → longer ≡ start +ℤ amount (item, q)
    → Gives t (prefix ++ q ∷ []) MayLonger amount longer sum → Gives t prefix May amount start sum
gives-shorter t prefix item q May MayLonger amount start longer sum next still here more given =
    let choice = given.0 in
    let left : remaining t prefix ≡ item ∷ remaining t (prefix ++ q ∷ []) = remaining-next t prefix item q next in
    let each : All (λ (p : Placed). May p.0 p.1) ((item, q) ∷ zip (remaining t (prefix ++ q ∷ [])) choice) =
    All-cons (λ (p : Placed). May p.0 p.1) (item, q) (zip (remaining t (prefix ++ q ∷ [])) choice) here
    (All-weaker (λ (p : Placed). MayLonger p.0 p.1) (λ (p : Placed). May p.0 p.1) still (zip (remaining t (prefix ++ q ∷ [])) choice) given.1.each) in
    let chosen : int_sum_by amount (zip (remaining t prefix) (q ∷ choice)) ≡ amount (item, q) +ℤ int_sum_by amount (zip (remaining t (prefix ++ q ∷ [])) choice) =
    ap (λ items. int_sum_by amount (zip items (q ∷ choice))) left in (
      q ∷ choice,
      record {
        one_each = omega (arith, given.1.one_each, ap length left);
        each = subst (λ items. All (λ (p : Placed). May p.0 p.1) (zip items (q ∷ choice))) (sym left) each;
      },
      same_sum _ _ _ _ _ _ given.2 more chosen,
    )
  where
    same_sum : (sum start longer here rest chosen : ℤ) → sum ≡ longer +ℤ rest → longer ≡ start +ℤ here → chosen ≡ here +ℤ rest → sum ≡ start +ℤ chosen
    same_sum sum start longer here rest chosen is more all = omega (arith, ints)

sum-next : (f : Placed → ℤ) (t : Problem) (prefix : List ℕ) (item : Item) (q : ℕ) → slice_get (ordered t.items) (length prefix) ≡ Some item
    → int_sum_by f (placed t (prefix ++ q ∷ [])) ≡ int_sum_by f (placed t prefix) +ℤ f (item, q)
sum-next f t prefix item q next = ap (int_sum_by f) (placed-push t prefix item q next) ∙ int_sum_by-push f (placed t prefix) (item, q)

turned : (a b c : ℤ) → (a +ℤ b) +ℤ c ≡ (a +ℤ c) +ℤ b
turned a b c = omega (arith, ints)

-- one container more adds its moment, and its mass on its side
pub hold_index-next : (t : Problem) (prefix : List ℕ) (item : Item) (q : ℕ) → slice_get (ordered t.items) (length prefix) ≡ Some item
    → hold_index t (prefix ++ q ∷ []) ≡ hold_index t prefix +ℤ placed_moment t.hold (item, q)
hold_index-next t prefix item q next =
    ap (λ m. m +ℤ int_sum_by (loose_moment t.hold) t.loose) (sum-next (placed_moment t.hold) t prefix item q next)
    ∙ turned (int_sum_by (placed_moment t.hold) (placed t prefix)) (placed_moment t.hold (item, q)) (int_sum_by (loose_moment t.hold) t.loose)

pub lateral_difference-next : (t : Problem) (prefix : List ℕ) (item : Item) (q : ℕ) → slice_get (ordered t.items) (length prefix) ≡ Some item
    → lateral_difference t (prefix ++ q ∷ []) ≡ lateral_difference t prefix +ℤ placed_lateral t.hold (item, q)
lateral_difference-next t prefix item q next =
    ap (λ m. m +ℤ int_sum_by (loose_lateral t.hold) t.loose) (sum-next (placed_lateral t.hold) t prefix item q next)
    ∙ turned (int_sum_by (placed_lateral t.hold) (placed t prefix)) (placed_lateral t.hold (item, q)) (int_sum_by (loose_lateral t.hold) t.loose)

-- where all that one span allows is allowed by another, the first lies in the second
pub spans-lie : (reached : Option (ℤ × ℤ)) (Outer Inner : ℤ → Type 0) (inner : ℤ × ℤ) → ((x : ℤ) → Inner x → Outer x) → IsSpanOf Inner inner → Spans reached Outer → IsSomeAnd reached (LiesIn inner)
spans-lie None Outer Inner inner allows is none = absurd (none inner.0 (allows inner.0 is.least))
spans-lie (Some outer) Outer Inner inner allows is outer_is =
    ((outer_is.between inner.0 (allows inner.0 is.least)).0, (outer_is.between inner.1 (allows inner.1 is.greatest)).1)

span-of : (reached : Option (ℤ × ℤ)) (Allowed : ℤ → Type 0) (span : ℤ × ℤ) → reached ≡ Some span → Spans reached Allowed → IsSpanOf Allowed span
span-of reached Allowed span is spans = subst (λ o. Spans o Allowed) is spans

pub next-of : (t : Problem) (prefix : List ℕ) (q : ℕ) → IsSound t (prefix ++ q ∷ []) → (item : Item) × (slice_get (ordered t.items) (length prefix) ≡ Some item)
next-of t prefix q sound = next-item t (length prefix) (omega (arith, sound.short, length-append prefix (q ∷ [])))

-- each reach is no less and no greater with one position fewer
pub reach-shorter : (t : Problem) (prefix : List ℕ) (q : ℕ) (inner : ℤ × ℤ) → IsSound t (prefix ++ q ∷ []) → IsRising t (prefix ++ q ∷ []) → reach t (prefix ++ q ∷ []) ≡ Some inner
    → IsSomeAnd (reach t prefix) (LiesIn inner)
reach-shorter t prefix q inner sound rising is =
    let next = next-of t prefix q sound in
    let here : IsOpen t prefix next.0 q = record { free = free_before t prefix next.0 q next.1 sound; above_twins = IsRising-last t prefix next.0 q next.1 rising } in
    spans-lie (reach t prefix) (Allows t prefix) (Allows t (prefix ++ q ∷ [])) inner
    (λ x. gives-shorter t prefix next.0 q (IsOpen t prefix) (IsOpen t (prefix ++ q ∷ [])) (placed_moment t.hold) (hold_index t prefix) (hold_index t (prefix ++ q ∷ [])) x
    next.1 (still_open t prefix next.0 q next.1) here (hold_index-next t prefix next.0 q next.1))
    (span-of (reach t (prefix ++ q ∷ [])) (Allows t (prefix ++ q ∷ [])) inner is (reach-is t (prefix ++ q ∷ [])))
    (reach-is t prefix)

pub wide_reach-shorter : (t : Problem) (prefix : List ℕ) (q : ℕ) (inner : ℤ × ℤ) → IsSound t (prefix ++ q ∷ []) → wide_reach t (prefix ++ q ∷ []) ≡ Some inner
    → IsSomeAnd (wide_reach t prefix) (LiesIn inner)
wide_reach-shorter t prefix q inner sound is =
    let next = next-of t prefix q sound in
    spans-lie (wide_reach t prefix) (AllowsWidely t prefix) (AllowsWidely t (prefix ++ q ∷ [])) inner
    (λ x. gives-shorter t prefix next.0 q (IsFree t prefix) (IsFree t (prefix ++ q ∷ [])) (placed_moment t.hold) (hold_index t prefix) (hold_index t (prefix ++ q ∷ [])) x
    next.1 (still_free t prefix q) (free_before t prefix next.0 q next.1 sound) (hold_index-next t prefix next.0 q next.1))
    (span-of (wide_reach t (prefix ++ q ∷ [])) (AllowsWidely t (prefix ++ q ∷ [])) inner is (wide_reach-is t (prefix ++ q ∷ [])))
    (wide_reach-is t prefix)

pub lateral_reach-shorter : (t : Problem) (prefix : List ℕ) (q : ℕ) (inner : ℤ × ℤ) → IsSound t (prefix ++ q ∷ []) → lateral_reach t (prefix ++ q ∷ []) ≡ Some inner
    → IsSomeAnd (lateral_reach t prefix) (LiesIn inner)
lateral_reach-shorter t prefix q inner sound is =
    let next = next-of t prefix q sound in
    spans-lie (lateral_reach t prefix) (AllowsLaterally t prefix) (AllowsLaterally t (prefix ++ q ∷ [])) inner
    (λ x. gives-shorter t prefix next.0 q (IsFree t prefix) (IsFree t (prefix ++ q ∷ [])) (placed_lateral t.hold) (lateral_difference t prefix) (lateral_difference t (prefix ++ q ∷ [])) x
    next.1 (still_free t prefix q) (free_before t prefix next.0 q next.1 sound) (lateral_difference-next t prefix next.0 q next.1))
    (span-of (lateral_reach t (prefix ++ q ∷ [])) (AllowsLaterally t (prefix ++ q ∷ [])) inner is (lateral_reach-is t (prefix ++ q ∷ [])))
    (lateral_reach-is t prefix)

-- Complete prefixes -----------------------------------------------------------------------------

span-complete : (t : Problem) (path : List ℕ) (may : Item → ℕ → Bool) (amount : Placed → ℤ) (start : ℤ) → length path ≡ length t.items → span_from t path may amount start ≡ Some (start, start)
span-complete t path may amount start complete =
    let none : remaining t path ≡ [] = drop_all (length path) (ordered t.items) (omega (arith, complete, length-ordered t.items)) in
    let same : start +ℤ pos 0 ≡ start = omega (arith, ints) in
    rw none (ap₂ (λ a b. Some (a, b)) same same)

-- a complete prefix reaches its own sums alone
pub reach-complete : (t : Problem) (path : List ℕ) → length path ≡ length t.items → reach t path ≡ Some (hold_index t path, hold_index t path)
reach-complete t path complete = span-complete t path (is_open t path) (placed_moment t.hold) (hold_index t path) complete

pub wide_reach-complete : (t : Problem) (path : List ℕ) → length path ≡ length t.items → wide_reach t path ≡ Some (hold_index t path, hold_index t path)
wide_reach-complete t path complete = span-complete t path (is_free t path) (placed_moment t.hold) (hold_index t path) complete

pub lateral_reach-complete : (t : Problem) (path : List ℕ) → length path ≡ length t.items → lateral_reach t path ≡ Some (lateral_difference t path, lateral_difference t path)
lateral_reach-complete t path complete = span-complete t path (is_free t path) (placed_lateral t.hold) (lateral_difference t path) complete

pub bound-complete : (t : Problem) (path : List ℕ) → length path ≡ length t.items → bound t path ≡ Some (distance t path)
bound-complete t path complete = rw (reach-complete t path complete) refl

-- one number alone that meets a range is in it
meets-one : (low high x : ℤ) → Meets low high (Some (x, x)) → (low ≤ℤ x) × (x ≤ℤ high)
meets-one low high x meets = (omega (arith, ints, meets.from_a, meets.to_b, meets.from_c), omega (arith, ints, meets.from_a, meets.to_b, meets.to_d))

within-limit : (x : ℤ) (most : ℕ) → (pos 0 -ℤ pos most) ≤ℤ x → x ≤ℤ pos most → unsigned_abs x ≤ most
within-limit x most from to = omega (arith, ints)

lateral-kept : (limit : Option Lateral) (x : ℤ) → IfSome limit (λ (l : Lateral). Meets (pos 0 -ℤ pos l.most.0) (pos l.most.0) (Some (x, x))) → IfSome limit (λ (l : Lateral). unsigned_abs x ≤ l.most.0)
lateral-kept None x meets = tt
lateral-kept (Some l) x meets = let both = meets-one (pos 0 -ℤ pos l.most.0) (pos l.most.0) x meets in within-limit x l.most.0 both.0 both.1

-- a complete prefix that is viable is an admissible path
pub IsAdmissible-from_viable : (t : Problem) (path : List ℕ) → length path ≡ length t.items → IsViable t path → IsAdmissible t path
IsAdmissible-from_viable t path complete viable =
    let window = meets-one t.low t.high (hold_index t path) (subst (λ reached. Meets t.low t.high reached) (reach-complete t path complete) viable.window) in
    record {
      sound = viable.sound;
      complete = complete;
      low = window.0;
      high = window.1;
      lateral = lateral-kept t.hold.lateral (lateral_difference t path) (subst (λ reached. MeetsLateral t.hold reached) (lateral_reach-complete t path complete) viable.lateral);
    }

-- Prefixes of paths -----------------------------------------------------------------------------

IsWithin-outer : (inner outer : ℤ × ℤ) (x : ℤ) → LiesIn inner outer → IsWithin inner x → IsWithin outer x
IsWithin-outer inner outer x lies within = (omega (arith, ints, lies.0, within.0), omega (arith, ints, lies.1, within.1))

IsSomeAnd-weaker : {X : Type 0} (P Q : X → Type 0) (o : Option X) → ((x : X) → P x → Q x) → IsSomeAnd o P → IsSomeAnd o Q
IsSomeAnd-weaker P Q None weaker is = absurd is
IsSomeAnd-weaker P Q (Some x) weaker is = weaker x is

value_of : {X : Type 0} (o : Option X) (P : X → Type 0) → IsSomeAnd o P → (x : X) × (o ≡ Some x) × P x
value_of None P is = absurd is
value_of (Some x) P is = (x, refl, is)

-- where a path's own number is all that it reaches, and one position more never widens what prefixes reach, each prefix of the path
-- reaches that number
holds : (Good : List ℕ → Type 0) (reached : List ℕ → Option (ℤ × ℤ)) (number : List ℕ → ℤ) (count : ℕ)
    → ((path : List ℕ) → length path ≡ count → reached path ≡ Some (number path, number path))
    → ((front rest : List ℕ) → Good (front ++ rest) → Good front)
    → ((front : List ℕ) (q : ℕ) (inner : ℤ × ℤ) → Good (front ++ q ∷ []) → reached (front ++ q ∷ []) ≡ Some inner → IsSomeAnd (reached front) (LiesIn inner))
    → (front rest : List ℕ) → Good (front ++ rest) → length (front ++ rest) ≡ count → IsSomeAnd (reached front) (λ span. IsWithin span (number (front ++ rest)))
holds Good reached number count complete fronts shorter front [] good whole =
    let all : front ++ [] ≡ front = append-nil front in
    let same : number front ≡ number (front ++ []) = ap number (sym all) in
    rw (complete front (sym (ap length all) ∙ whole)) (omega (arith, ints, same), omega (arith, ints, same))
holds Good reached number count complete fronts shorter front (q ∷ rest) good whole =
    let all : (front ++ q ∷ []) ++ rest ≡ front ++ q ∷ rest = append_assoc front (q ∷ []) rest in
    let good_all : Good ((front ++ q ∷ []) ++ rest) = subst Good (sym all) good in
    let below = holds Good reached number count complete fronts shorter (front ++ q ∷ []) rest good_all (ap length all ∙ whole) in
    let x = number ((front ++ q ∷ []) ++ rest) in
    let inner = value_of (reached (front ++ q ∷ [])) (λ span. IsWithin span x) below in
    let lies = shorter front q inner.0 (fronts (front ++ q ∷ []) rest good_all) inner.1 in
    subst (λ path. IsSomeAnd (reached front) (λ span. IsWithin span (number path))) all
    (IsSomeAnd-weaker (LiesIn inner.0) (λ span. IsWithin span x) (reached front) (λ outer lies. IsWithin-outer inner.0 outer x lies inner.2) lies)

-- a sound and rising prefix
record SoundAndRising (t : Problem) (prefix : List ℕ) : Type 0 where
  pub sound : IsSound t prefix
  pub rising : IsRising t prefix

-- the hold index and the lateral difference of an admissible path are in reach of each of its prefixes
reach-holds : (t : Problem) (front rest : List ℕ) → IsAdmissible t (front ++ rest) → IsRising t (front ++ rest) → IsSomeAnd (reach t front) (λ span. IsWithin span (hold_index t (front ++ rest)))
reach-holds t front rest admissible rising = holds (SoundAndRising t) (reach t) (hold_index t) (length t.items) (reach-complete t)
    (λ front rest good. record { sound = IsSound-front t front rest good.sound; rising = IsRising-front t front rest good.rising })
    (λ front q inner good. reach-shorter t front q inner good.sound good.rising)
    front rest record { sound = admissible.sound; rising = rising } admissible.complete

wide_reach-holds : (t : Problem) (front rest : List ℕ) → IsAdmissible t (front ++ rest) → IsSomeAnd (wide_reach t front) (λ span. IsWithin span (hold_index t (front ++ rest)))
wide_reach-holds t front rest admissible = holds (IsSound t) (wide_reach t) (hold_index t) (length t.items) (wide_reach-complete t) (IsSound-front t) (wide_reach-shorter t) front rest admissible.sound admissible.complete

lateral_reach-holds : (t : Problem) (front rest : List ℕ) → IsAdmissible t (front ++ rest) → IsSomeAnd (lateral_reach t front) (λ span. IsWithin span (lateral_difference t (front ++ rest)))
lateral_reach-holds t front rest admissible =
    holds (IsSound t) (lateral_reach t) (lateral_difference t) (length t.items) (lateral_reach-complete t) (IsSound-front t) (lateral_reach-shorter t) front rest admissible.sound admissible.complete

-- what reaches a number of a range meets it
meets-from : (reached : Option (ℤ × ℤ)) (low high x : ℤ) → low ≤ℤ x → x ≤ℤ high → IsSomeAnd reached (λ span. IsWithin span x) → Meets low high reached
meets-from reached low high x from to is =
    IsSomeAnd-weaker (λ span. IsWithin span x) _ reached (λ span within. record { number = x; from_a = within.0; to_b = within.1; from_c = from; to_d = to }) is

limit-low : (x : ℤ) (most : ℕ) → unsigned_abs x ≤ most → (pos 0 -ℤ pos most) ≤ℤ x
limit-low x most is = omega (arith, ints)

limit-high : (x : ℤ) (most : ℕ) → unsigned_abs x ≤ most → x ≤ℤ pos most
limit-high x most is = omega (arith, ints)

lateral-met : (limit : Option Lateral) (reached : Option (ℤ × ℤ)) (x : ℤ) → IfSome limit (λ (l : Lateral). unsigned_abs x ≤ l.most.0) → IsSomeAnd reached (λ span. IsWithin span x)
    → IfSome limit (λ (l : Lateral). Meets (pos 0 -ℤ pos l.most.0) (pos l.most.0) reached)
lateral-met None reached x kept is = tt
lateral-met (Some l) reached x kept is = meets-from reached (pos 0 -ℤ pos l.most.0) (pos l.most.0) x (limit-low x l.most.0 kept) (limit-high x l.most.0 kept) is

-- every prefix of a rising admissible path is viable
pub IsViable-front : (t : Problem) (front rest : List ℕ) → IsAdmissible t (front ++ rest) → IsRising t (front ++ rest) → IsViable t front
IsViable-front t front rest admissible rising = record {
  sound = IsSound-front t front rest admissible.sound;
  rising = IsRising-front t front rest rising;
  window = meets-from (reach t front) t.low t.high (hold_index t (front ++ rest)) admissible.low admissible.high (reach-holds t front rest admissible rising);
  lateral = lateral-met t.hold.lateral (lateral_reach t front) (lateral_difference t (front ++ rest)) admissible.lateral (lateral_reach-holds t front rest admissible);
}

-- the wide reach of every prefix of an admissible path meets the window
pub window-met_widely : (t : Problem) (front rest : List ℕ) → IsAdmissible t (front ++ rest) → Meets t.low t.high (wide_reach t front)
window-met_widely t front rest admissible =
    meets-from (wide_reach t front) t.low t.high (hold_index t (front ++ rest)) admissible.low admissible.high (wide_reach-holds t front rest admissible)

-- Bounds ----------------------------------------------------------------------------------------

not_less : (x y : ℤ) → y ≤ℤ x → int_lt x y ≡ false
not_less x y is = grind (arith, ints)

-- no index between a and b is nearer to the band than their gap
pub gap-most : (a b c d x : ℤ) → c ≤ℤ d → a ≤ℤ x → x ≤ℤ b → gap a b c d ≤ distance_to c d x
gap-most a b c d x band low high = ⊎_elim
    (λ (before : int_lt b c ≡ true).
    let below : int_lt x c ≡ true = less x c (omega (arith, ints)) in
    rw (before, below) (omega (arith, ints)))
    (λ (from : int_lt b c ≡ false). ⊎_elim
    (λ (after : int_lt d a ≡ true).
    let past : int_lt x c ≡ false = not_less x c (omega (arith, ints)) in
    let above : int_lt d x ≡ true = less d x (omega (arith, ints)) in
    rw (from, after, past, above) (omega (arith, ints)))
    (λ (meets : int_lt d a ≡ false). rw (from, meets) (omega arith))
    (cases_Bool (int_lt d a)))
    (cases_Bool (int_lt b c))
  where
    less : (x y : ℤ) → (x +ℤ pos 1) ≤ℤ y → int_lt x y ≡ true
    less x y is = grind (arith, ints)

-- the gap of a reach is at most the distance of what is reached
pub gap-below : (t : Problem) (reached : Option (ℤ × ℤ)) (index : ℤ) → t.ideal_low ≤ℤ t.ideal_high → IsSomeAnd reached (λ span. IsWithin span index)
    → IsSomeAnd (option_map (gap_to_ideal t) reached) (λ b. b ≤ distance_at t index)
gap-below t None index band is = absurd is
gap-below t (Some span) index band is =
    gap-most (t.base +ℤ span.0) (t.base +ℤ span.1) t.ideal_low t.ideal_high (t.base +ℤ index) band (omega (arith, ints, is.0)) (omega (arith, ints, is.1))

-- a bound is at most the distance of every rising admissible path that extends its prefix
pub bound-most : (t : Problem) (front rest : List ℕ) → t.ideal_low ≤ℤ t.ideal_high → IsAdmissible t (front ++ rest) → IsRising t (front ++ rest) → IsSomeAnd (bound t front) (λ b. b ≤ distance t (front ++ rest))
bound-most t front rest band admissible rising = gap-below t (reach t front) (hold_index t (front ++ rest)) band (reach-holds t front rest admissible rising)

-- a wide bound is at most the distance of every admissible path that extends its prefix
pub wide_bound-most : (t : Problem) (front rest : List ℕ) → t.ideal_low ≤ℤ t.ideal_high → IsAdmissible t (front ++ rest) → IsSomeAnd (wide_bound t front) (λ b. b ≤ distance t (front ++ rest))
wide_bound-most t front rest band admissible = gap-below t (wide_reach t front) (hold_index t (front ++ rest)) band (wide_reach-holds t front rest admissible)

-- the ends of a lawful task's ideal band are in order
pub band-in_order : (t : Problem) → IsLawful t → t.ideal_low ≤ℤ t.ideal_high
band-in_order t lawful = (lawful-bounds t lawful).band

in_band : (c d x : ℤ) → c ≤ℤ x → x ≤ℤ d → distance_to c d x ≡ 0
in_band c d x from to = rw (not_less x c from, not_less d x to) refl

-- the bound is the distance to the nearest index in reach
pub gap-nearest : (t : Problem) (span : ℤ × ℤ) → t.ideal_low ≤ℤ t.ideal_high → span.0 ≤ℤ span.1 → IsNearest t span (gap_to_ideal t span)
gap-nearest t span band rising = ⊎_elim
    (λ (before : int_lt high t.ideal_low ≡ true). record {
      index = span.1;
      inside = (rising, omega (arith, ints));
      is = rw before refl;
      least = most;
    })
    (λ (from : int_lt high t.ideal_low ≡ false). ⊎_elim
    (λ (after : int_lt t.ideal_high low ≡ true).
    let past : int_lt low t.ideal_low ≡ false = not_less low t.ideal_low (omega (arith, ints)) in
    record {
      index = span.0;
      inside = (omega (arith, ints), rising);
      is = rw (from, past, after) refl;
      least = most;
    })
    (λ (meets : int_lt t.ideal_high low ≡ false). ⊎_elim
    (λ (short : int_lt low t.ideal_low ≡ true).
    let there : t.base +ℤ (t.ideal_low -ℤ t.base) ≡ t.ideal_low = omega (arith, ints) in
    record {
      index = t.ideal_low -ℤ t.base;
      inside = (omega (arith, ints), omega (arith, ints));
      is = ap (distance_to t.ideal_low t.ideal_high) there ∙ in_band t.ideal_low t.ideal_high t.ideal_low (omega (arith, ints)) band ∙ sym (rw (from, meets) refl);
      least = most;
    })
    (λ (past : int_lt low t.ideal_low ≡ false). record {
      index = span.0;
      inside = (omega (arith, ints), rising);
      is = in_band t.ideal_low t.ideal_high low (omega (arith, ints)) (omega (arith, ints)) ∙ sym (rw (from, meets) refl);
      least = most;
    })
    (cases_Bool (int_lt low t.ideal_low)))
    (cases_Bool (int_lt t.ideal_high low)))
    (cases_Bool (int_lt high t.ideal_low))
  where
    low : ℤ
    low = t.base +ℤ span.0

    high : ℤ
    high = t.base +ℤ span.1

    most : (other : ℤ) → IsWithin span other → gap (t.base +ℤ span.0) (t.base +ℤ span.1) t.ideal_low t.ideal_high ≤ distance_at t other
    most other within = gap-most (t.base +ℤ span.0) (t.base +ℤ span.1) t.ideal_low t.ideal_high (t.base +ℤ other) band (omega (arith, ints, within.0)) (omega (arith, ints, within.1))

nearest-of : (t : Problem) (reached : Option (ℤ × ℤ)) (Allowed : ℤ → Type 0) (span : ℤ × ℤ) → t.ideal_low ≤ℤ t.ideal_high → Spans reached Allowed → reached ≡ Some span
    → IsSomeAnd (option_map (gap_to_ideal t) reached) (IsNearest t span)
nearest-of t reached Allowed span band spans is =
    let whole = span-of reached Allowed span is spans in
    rw is (gap-nearest t span band ((whole.between span.1 whole.greatest).0))

pub bound-nearest : (t : Problem) (prefix : List ℕ) (span : ℤ × ℤ) → t.ideal_low ≤ℤ t.ideal_high → reach t prefix ≡ Some span → IsSomeAnd (bound t prefix) (IsNearest t span)
bound-nearest t prefix span band is = nearest-of t (reach t prefix) (Allows t prefix) span band (reach-is t prefix) is

pub wide_bound-nearest : (t : Problem) (prefix : List ℕ) (span : ℤ × ℤ) → t.ideal_low ≤ℤ t.ideal_high → wide_reach t prefix ≡ Some span → IsSomeAnd (wide_bound t prefix) (IsNearest t span)
wide_bound-nearest t prefix span band is = nearest-of t (wide_reach t prefix) (AllowsWidely t prefix) span band (wide_reach-is t prefix) is
