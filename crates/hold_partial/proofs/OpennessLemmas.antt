-- open positions by their numbers, and those of all containers that a prefix leaves
use Rattle.std.proofs.Common.{◌≡◌, ⊎_elim, ℕ, ◌+◌, ◌-◌, ◌<◌, ◌≤◌, Bool, true, false, not, ◌&&◌, nat_lt, List, [], ◌∷◌, ◌++◌, length, get_or, take, Some, refl, ap, ap₂, sym, subst, ◌∙◌, arith, length-drop}
use Rattle.std.proofs.lemmas.Bool.{cases_Bool}
use Rattle.std.proofs.lemmas.Bool.Decides.{nat_tests}
use Rattle.std.proofs.lemmas.List.{take_more, take_all, get_or-drop}
use Rattle.std.proofs.lemmas.Option.{get_or_from_slice_get}
use Rattle.std.specs.Prelude.{slice_get}
use Rattle.std.specs.List.{AllZip, list_any}
use Rattle.hold_parts.specs.declared.parts.Item.{Item}
use Rattle.hold_limits.specs.Problem.{Problem}
use Rattle.hold_limits.specs.BranchOrder.{ordered}
use Rattle.hold_limits.specs.Enumeration.{is_accepted, exclude}
use Rattle.hold_limits.proofs.BranchOrderLemmas.{length-ordered}
use Rattle.hold_limits.proofs.EnumerationLemmas.{is_accepted-Decides}
use Rattle.hold_limits.proofs.SoundLemmas.{accepted_within}
use Rattle.hold_reach.specs.declared.extent.Extent.TheVariants.{WideReach}
use Rattle.hold_reach.specs.Reach.{is_free, falls, is_open, remaining}
use Rattle.hold_reach.specs.Rules.{is_used}
use Rattle.hold_reach.proofs.ReachLemmas.{next-item}
use Rattle.hold_partial.specs.Arrangement.{Ranked, IsByInfluence, at_rank}
use Rattle.hold_partial.specs.Levels.{is_blocked}
use Rattle.hold_partial.proofs.KeptLemmas.{stand-known}
use Rattle.hold_partial.proofs.LevelSteps.{free-by}
use Rattle.hold_partial.proofs.RankLemmas.{rank-of, at-its-rank}
use Rattle.position_set.specs.declared.set.PositionSet.{PositionSet}
use Rattle.position_set.specs.Sets.{has, Stands}

-- One container ---------------------------------------------------------------------------------

-- what speaks against a position need only be known below n, where a position that is allowed lies below n
guarded : (n q : ℕ) (allowed against : Bool) → (allowed ≡ true → q < n) → (allowed && not (nat_lt q n && against)) ≡ (allowed && not against)
guarded n q false against known = refl
guarded n q true against known =
    let below : q < n = known refl in
    let inside : nat_lt q n ≡ true = grind (arith, nat_tests) in
    rw inside refl

-- a position that accepts the container and is not blocked is free
pub free-numbers : (t : Problem) (prefix : List ℕ) (item : Item) (accepting blocked : PositionSet) → Stands accepting (λ q. is_accepted t.hold (item, q))
    → Stands blocked (λ q. nat_lt q (length t.hold.positions) && is_blocked t.hold prefix q)
    → (q : ℕ) → (has accepting q && not (has blocked q)) ≡ is_free t prefix item q
free-numbers t prefix item accepting blocked accepts blocks q =
    ap₂ (λ a b. a && not b) (accepts q) (blocks q)
    ∙ guarded (length t.hold.positions) q (is_accepted t.hold (item, q)) (is_blocked t.hold prefix q) (λ is. accepted_within t.hold (item, q) ((is_accepted-Decides t.hold (item, q)).0 is))
    ∙ free-by (is_accepted t.hold (item, q)) (is_used prefix q) (list_any (λ used. exclude t.hold used q) prefix)

-- a free position that is not closed to the container is open
pub open-numbers : (t : Problem) (prefix : List ℕ) (item : Item) (free closed : PositionSet) → Stands free (is_free t prefix item)
    → Stands closed (λ q. nat_lt q (length t.hold.positions) && falls t prefix item q)
    → (q : ℕ) → (has free q && not (has closed q)) ≡ is_open t prefix item q
open-numbers t prefix item free closed frees closes q =
    ap₂ (λ a b. a && not b) (frees q) (closes q)
    ∙ guarded (length t.hold.positions) q (is_free t prefix item q) (falls t prefix item q) (stand-known WideReach t prefix item q)

-- where nothing is closed to the container, each free position is open
pub open-where_free : (t : Problem) (prefix : List ℕ) (item : Item) (ranks : List Ranked) (closed : PositionSet) → IsByInfluence t.hold ranks → Stands closed (at_rank (falls t prefix item) ranks)
    → ((r : ℕ) → has closed r ≡ false) → (q : ℕ) → is_free t prefix item q ≡ is_open t prefix item q
open-where_free t prefix item ranks closed arranged closes none q = ⊎_elim
    (λ (free : is_free t prefix item q ≡ true).
    let rank = rank-of t.hold ranks arranged q (stand-known WideReach t prefix item q free) in
    let stays : falls t prefix item q ≡ false = sym (at-its-rank (falls t prefix item) t.hold ranks rank.0 q rank.2) ∙ sym (closes rank.0) ∙ none rank.0 in
    rw (free, stays) refl)
    (λ (taken : is_free t prefix item q ≡ false). rw taken refl)
    (cases_Bool (is_free t prefix item q))

-- All containers --------------------------------------------------------------------------------

pub length-remaining : (t : Problem) (prefix : List ℕ) → length (remaining t prefix) ≡ length t.items - length prefix
length-remaining t prefix = omega (arith, length-drop (length prefix) (ordered t.items), length-ordered t.items)

push-pair : {A B : Type 0} (R : A → B → Type 0) (xs : List A) (ys : List B) (x : A) (y : B) → AllZip R xs ys → R x y → AllZip R (xs ++ x ∷ []) (ys ++ y ∷ [])
push-pair R [] [] x y all here = (here, tt)
push-pair R [] (b ∷ ys) x y all here = absurd all
push-pair R (a ∷ xs) [] x y all here = absurd all
push-pair R (a ∷ xs) (b ∷ ys) x y all here = (all.0, push-pair R xs ys x y all.1 here)

-- what holds of the first containers that are left holds with that of the next rank
pub next-left : {B : Type 0} (R : Item → B → Type 0) (t : Problem) (prefix : List ℕ) (rank : ℕ) (ys : List B) (y : B) → length prefix ≤ rank → rank < length t.items
    → AllZip R (take (rank - length prefix) (remaining t prefix)) ys → ((item : Item) → slice_get (ordered t.items) rank ≡ Some item → R item y)
    → AllZip R (take ((rank + 1) - length prefix) (remaining t prefix)) (ys ++ y ∷ [])
next-left R t prefix rank ys y from within all here =
    let left : List Item = remaining t prefix in
    let k : ℕ = rank - length prefix in
    let next = next-item t rank within in
    let fewer : k < length left = omega (arith, from, within, length-remaining t prefix) in
    let at : length prefix + k ≡ rank = omega (arith, from) in
    let more : (rank + 1) - length prefix ≡ k + 1 = omega (arith, from) in
    let this : get_or left k next.0 ≡ next.0 =
    get_or-drop (length prefix) (ordered t.items) k next.0 ∙ ap (λ n. get_or (ordered t.items) n next.0) at ∙ get_or_from_slice_get (ordered t.items) rank next.0 next.0 next.1 in
    let longer : take ((rank + 1) - length prefix) left ≡ take k left ++ next.0 ∷ [] =
    ap (λ n. take n left) more ∙ take_more left k next.0 fewer ∙ ap (λ (item : Item). take k left ++ item ∷ []) this in
    subst (λ (items : List Item). AllZip R items (ys ++ y ∷ [])) (sym longer) (push-pair R (take k left) ys next.0 y all (here next.0 next.1))

-- the ranks from that of the first container that is left on are those of all that are left
pub all-left : {B : Type 0} (R : Item → B → Type 0) (t : Problem) (prefix : List ℕ) (rank : ℕ) (ys : List B) → length t.items ≤ rank
    → AllZip R (take (rank - length prefix) (remaining t prefix)) ys → AllZip R (remaining t prefix) ys
all-left R t prefix rank ys past all =
    subst (λ (items : List Item). AllZip R items ys) (take_all (rank - length prefix) (remaining t prefix) (omega (arith, past, length-remaining t prefix))) all
