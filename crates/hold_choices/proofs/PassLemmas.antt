-- what a pass takes, one container more at a time
use Rattle.std.proofs.Common.{◌≡◌, ⊎_elim, ℕ, zero, suc, ◌+◌, ◌<◌, ◌≤◌, Bool, true, false, not, ◌&&◌, ◌||◌, ◌==◌, nat_lt, List, [], ◌∷◌, ◌++◌, map, length, take, drop, get_or, replicate, Some, refl, ap, ap₂, sym, ◌∙◌, arith, append_assoc}
use Rattle.std.specs.Prelude.{slice_get}
use Rattle.std.specs.List.{filter, list_all, list_any}
use Rattle.std.proofs.lemmas.List.{map-append}
use Rattle.std.proofs.lemmas.List.Folds.{list_all-append}
use Rattle.std.proofs.lemmas.Option.{slice_get_cases}
use Rattle.hold_parts.specs.declared.parts.Item.{Item}
use Rattle.hold_limits.specs.Problem.{Problem}
use Rattle.hold_limits.specs.BranchOrder.{ordered}
use Rattle.hold_limits.proofs.BranchOrderLemmas.{length-ordered}
use Rattle.position_set.specs.declared.set.PositionSet.{PositionSet}
use Rattle.position_set.specs.Sets.{has, members}
use Rattle.price_trees.specs.Prices.{Candidate, candidates}
use Rattle.price_trees.specs.Narrowing.{leaves, leaves_later, leaves_earlier, left_by}
use Rattle.hold_choices.specs.declared.taken.Taken.{Taken}
use Rattle.hold_limits.specs.Twins.{first_twin}
use Rattle.hold_choices.specs.Passing.{leaves_class_later, leaves_class_earlier, is_taken, IsTakenBy}
use Rattle.hold_choices.proofs.ClassLemmas.{of-class, twins-swap, class-known}
use Rattle.hold_choices.proofs.ListLemmas.{zip-at, drop-at, take-at}
use Rattle.hold_choices.proofs.NumberLemmas.{members-filtered}

-- Tests -----------------------------------------------------------------------------------------

not-left : (leaves same any : Bool) → (not leaves || (same && not any)) ≡ not (leaves && (not same || any))
not-left true true true = refl
not-left true true false = refl
not-left true false any = refl
not-left false same any = refl

first-not : (a b : Bool) → (not a || not b) ≡ not (b && a)
first-not true true = refl
first-not true false = refl
first-not false true = refl
first-not false false = refl

last-not : (a b : Bool) → (not a || not b) ≡ not (a && (b && true))
last-not true true = refl
last-not true false = refl
last-not false true = refl
last-not false false = refl

-- what a container takes from those of a class
pub taken-later : (t : Problem) (class p : ℕ) (c : Candidate) (from_all from_twins : Bool) → from_all ≡ not (leaves t.hold c.1 p) → from_twins ≡ not (list_any (λ q. nat_lt q p) c.1)
    → (from_all || ((first_twin t c.0 == class) && from_twins)) ≡ not (leaves_class_later t class p c)
taken-later t class p c from_all from_twins first second =
    ap₂ (λ a b. a || ((first_twin t c.0 == class) && b)) first second ∙ not-left (leaves t.hold c.1 p) (first_twin t c.0 == class) (list_any (λ q. nat_lt q p) c.1)

pub taken-earlier : (t : Problem) (class p : ℕ) (c : Candidate) (from_all from_twins : Bool) → from_all ≡ not (leaves t.hold c.1 p) → from_twins ≡ not (list_any (λ q. nat_lt p q) c.1)
    → (from_all || ((first_twin t c.0 == class) && from_twins)) ≡ not (leaves_class_earlier t class p c)
taken-earlier t class p c from_all from_twins first second =
    ap₂ (λ a b. a || ((first_twin t c.0 == class) && b)) first second ∙ not-left (leaves t.hold c.1 p) (first_twin t c.0 == class) (list_any (λ q. nat_lt p q) c.1)

-- one container more, in front or behind
pub taken-front : (leave : ℕ → ℕ → Candidate → Bool) (c : Candidate) (containers all : List Candidate) (old new : Taken) → IsTakenBy leave containers old → all ≡ c ∷ containers
    → ((class p : ℕ) → class < 60 → p < 64 → is_taken new class p ≡ (is_taken old class p || not (leave class p c))) → IsTakenBy leave all new
taken-front leave c containers all old new so_far front is = λ class p known within.
    is class p known within
    ∙ ap (λ b. b || not (leave class p c)) (so_far class p known within)
    ∙ first-not (list_all (leave class p) containers) (leave class p c)
    ∙ ap (λ cs. not (list_all (leave class p) cs)) (sym front)

pub taken-behind : (leave : ℕ → ℕ → Candidate → Bool) (c : Candidate) (containers all : List Candidate) (old new : Taken) → IsTakenBy leave containers old → all ≡ containers ++ c ∷ []
    → ((class p : ℕ) → class < 60 → p < 64 → is_taken new class p ≡ (is_taken old class p || not (leave class p c))) → IsTakenBy leave all new
taken-behind leave c containers all old new so_far behind is = λ class p known within.
    is class p known within
    ∙ ap (λ b. b || not (leave class p c)) (so_far class p known within)
    ∙ last-not (list_all (leave class p) containers) (leave class p c)
    ∙ sym (ap not (list_all-append (leave class p) containers (c ∷ [])))
    ∙ ap (λ cs. not (list_all (leave class p) cs)) (sym behind)

-- from a container of the task its class is taken what is taken from itself
pub all-later : (t : Problem) (rank : ℕ) (item : Item) (p : ℕ) → slice_get (ordered t.items) rank ≡ Some item → (cs : List Candidate)
    → list_all (leaves_class_later t (first_twin t item) p) cs ≡ list_all (leaves_later t.hold item p) cs
all-later t rank item p there [] = refl
all-later t rank item p there (c ∷ cs) =
    ap₂ ◌&&◌ (ap (λ same. leaves t.hold c.1 p && (not same || list_any (λ q. nat_lt q p) c.1)) (of-class t rank item c.0 there)) (all-later t rank item p there cs)

pub all-earlier : (t : Problem) (rank : ℕ) (item : Item) (p : ℕ) → slice_get (ordered t.items) rank ≡ Some item → (cs : List Candidate)
    → list_all (leaves_class_earlier t (first_twin t item) p) cs ≡ list_all (leaves_earlier t.hold item p) cs
all-earlier t rank item p there [] = refl
all-earlier t rank item p there (c ∷ cs) =
    ap₂ ◌&&◌ (ap (λ same. leaves t.hold c.1 p && (not same || list_any (λ q. nat_lt p q) c.1)) (of-class t rank item c.0 there ∙ twins-swap c.0 item)) (all-earlier t rank item p there cs)

-- Places ----------------------------------------------------------------------------------------

-- the container at a rank, with its positions
pub record Here (t : Problem) (sets : List PositionSet) (rank : ℕ) (set : PositionSet) : Type 0 where
  pub item : Item
  pub there : slice_get (ordered t.items) rank ≡ Some item
  pub candidate : slice_get (candidates t (map members sets)) rank ≡ Some (item, members set)

pub map-get : (sets : List PositionSet) (rank : ℕ) (d : PositionSet) → rank < length sets → slice_get (map members sets) rank ≡ Some (members (get_or sets rank d))
map-get [] rank d within = absurd (omega (arith, within))
map-get (s ∷ sets) zero d within = refl
map-get (s ∷ sets) (suc rank) d within = map-get sets rank d (omega (arith, within))

pub here : (t : Problem) (sets : List PositionSet) (rank : ℕ) (d : PositionSet) → length sets ≤ length t.items → rank < length sets → Here t sets rank (get_or sets rank d)
here t sets rank d few within = ⊎_elim
    (λ found. record { item = found.0; there = found.2; candidate = zip-at (ordered t.items) (map members sets) rank found.0 (members (get_or sets rank d)) found.2 (map-get sets rank d within) })
    (λ past. absurd (omega (arith, past.0, few, within, length-ordered t.items)))
    (slice_get_cases (ordered t.items) rank).1

-- its class, looked up, is a rank
pub class-room : (t : Problem) (sets : List PositionSet) (classes : List ℕ) (rank : ℕ) → classes ≡ map (first_twin t) (ordered t.items) → length classes ≤ 60 → length sets ≤ length t.items → rank < length sets
    → get_or classes rank 0 < 60
class-room t sets classes rank tied room few within =
    let h = here t sets rank record { 0 = 0 } few within in
    class-known t classes rank h.item tied room h.there

-- nothing is taken at first
pub none-in : (xs : List PositionSet) (n : ℕ) (none : PositionSet) → xs ≡ replicate n none → ((q : ℕ) → has none q ≡ false) → (k q : ℕ) (d : PositionSet) → k < n → has (get_or xs k d) q ≡ false
none-in xs n none is empty k q d within = ap (λ ys. has (get_or ys k d) q) is ∙ each n k within
  where
    each : (n k : ℕ) → k < n → has (get_or (replicate n none) k d) q ≡ false
    each zero k within = absurd (omega (arith, within))
    each (suc n) zero within = empty q
    each (suc n) (suc k) within = each n k (omega (arith, within))

-- Sets ------------------------------------------------------------------------------------------

-- what is left of one container more
pub left-more : (t : Problem) (cs : List Candidate) (rank : ℕ) (item : Item) (set new : PositionSet) (left : List PositionSet) → slice_get cs rank ≡ Some (item, members set)
    → map members left ++ left_by t.hold (take rank cs) (drop rank cs) ≡ left_by t.hold [] cs
    → ((p : ℕ) → p < 64 → has new p ≡ (has set p && (list_all (leaves_later t.hold item p) (take rank cs) && list_all (leaves_earlier t.hold item p) (drop (rank + 1) cs))))
    → map members (left ++ new ∷ []) ++ left_by t.hold (take (rank + 1) cs) (drop (rank + 1) cs) ≡ left_by t.hold [] cs
left-more t cs rank item set new left there so_far is =
    let before = take rank cs in
    let after = drop (rank + 1) cs in
    let own : members new ≡ filter (λ p. list_all (leaves_later t.hold item p) before && list_all (leaves_earlier t.hold item p) after) (members set) = members-filtered new set _ is in
    let split : left_by t.hold before (drop rank cs) ≡ members new ∷ left_by t.hold (take (rank + 1) cs) after =
    ap (left_by t.hold before) (drop-at cs rank (item, members set) there) ∙ ap₂ (λ x seen. x ∷ left_by t.hold seen after) (sym own) (sym (take-at cs rank (item, members set) there)) in
    ap (λ xs. xs ++ left_by t.hold (take (rank + 1) cs) after) (map-append members left (new ∷ []))
    ∙ append_assoc (map members left) (members new ∷ []) (left_by t.hold (take (rank + 1) cs) after)
    ∙ ap (λ xs. map members left ++ xs) (sym split)
    ∙ so_far

neither : (s a b : Bool) → (s && not (not a || not b)) ≡ (s && (a && b))
neither s true true = refl
neither s true false = refl
neither s false b = refl

-- a set without what is taken either way
pub left-is : (set new both first second : PositionSet) (p : ℕ) (a b : Bool) → has new p ≡ (has set p && not (has both p)) → has both p ≡ (has first p || has second p)
    → has first p ≡ not a → has second p ≡ not b → has new p ≡ (has set p && (a && b))
left-is set new both first second p a b is either one other =
    is ∙ ap (λ e. has set p && not e) (either ∙ ap₂ ◌||◌ one other) ∙ neither (has set p) a b
