-- what is stowed, one container more, and what is summed over it
use Rattle.std.proofs.Common.{◌≡◌, ℕ, ◌+◌, ◌<◌, ◌≤◌, ℤ, ◌+ℤ◌, Bool, if◌then◌else◌, List, [], ◌∷◌, ◌++◌, length, get_or, take, map, Some, refl, ap, sym, ◌∙◌, arith}
use Rattle.std.proofs.lemmas.Int.{ints}
use Rattle.std.proofs.lemmas.List.{map-append}
use Rattle.std.proofs.lemmas.List.Sums.{sum_by-append}
use Rattle.std.specs.Prelude.{slice_get, ◌↔◌}
use Rattle.base_words.specs.Lists.{int_sum_by}
use Rattle.base_words.proofs.Arrangements.{sum_by-map}
use Rattle.hold_parts.specs.declared.parts.Combined.{Combined}
use Rattle.hold_parts.specs.declared.parts.Cumulative.{Cumulative}
use Rattle.hold_parts.specs.declared.parts.Item.{Item}
use Rattle.hold_parts.specs.declared.parts.Loose.{Loose}
use Rattle.hold_parts.specs.Limits.{is_listed, is_counted}
use Rattle.hold_limits.specs.Problem.{Problem}
use Rattle.hold_limits.specs.BranchOrder.{ordered}
use Rattle.hold_limits.specs.Placement.{Placed, placed, loose_load, load_of, IsSound}
use Rattle.hold_limits.specs.Stowage.{as_load, stowed, StandsSoundly}
use Rattle.hold_limits.proofs.PlacedLemmas.{pairs, take-pairs_more}

-- one container more
pub stowed-more : (items : List Item) (prefix : List ℕ) (rank q : ℕ) (item : Item) (before : List Loose) → length prefix ≤ length items → rank < length prefix
    → slice_get (ordered items) rank ≡ Some item → get_or prefix rank 0 ≡ q → before ≡ map as_load (take rank (pairs items prefix))
    → before ++ as_load (item, q) ∷ [] ≡ map as_load (take (rank + 1) (pairs items prefix))
stowed-more items prefix rank q item before short within there number is =
    ap (λ xs. xs ++ as_load (item, q) ∷ []) is
    ∙ sym (ap (map as_load) (take-pairs_more items prefix rank q item short within there number) ∙ map-append as_load (take rank (pairs items prefix)) ((item, q) ∷ []))

-- Sums over what is stowed --------------------------------------------------------------------------

int_sum_by-append : {X : Type 0} (f : X → ℤ) (xs ys : List X) → int_sum_by f (xs ++ ys) ≡ int_sum_by f xs +ℤ int_sum_by f ys
int_sum_by-append f [] ys = omega (arith, ints)
int_sum_by-append f (x ∷ xs) ys = let ih = int_sum_by-append f xs ys in omega (arith, ints)

int_sum_by-map : {X Y : Type 0} (f : Y → ℤ) (g : X → Y) (xs : List X) → int_sum_by f (map g xs) ≡ int_sum_by (λ x. f (g x)) xs
int_sum_by-map f g [] = refl
int_sum_by-map f g (x ∷ xs) = ap (λ z. f (g x) +ℤ z) (int_sum_by-map f g xs)

-- the moments of all that is stowed are those of the containers and of the loose loads
pub moment-stowed : (f : Loose → ℤ) (t : Problem) (prefix : List ℕ)
    → int_sum_by f (stowed t.items prefix t.loose) ≡ int_sum_by (λ (p : Placed). f (as_load p)) (placed t prefix) +ℤ int_sum_by f t.loose
moment-stowed f t prefix =
    int_sum_by-append f (map as_load (placed t prefix)) t.loose
    ∙ ap (λ x. x +ℤ int_sum_by f t.loose) (int_sum_by-map f as_load (placed t prefix))

-- so is the load of a set of positions
pub load-stowed : (is_in : ℕ → Bool) (t : Problem) (prefix : List ℕ) → loose_load is_in (stowed t.items prefix t.loose) ≡ load_of is_in t prefix
load-stowed is_in t prefix =
    let mass : Loose → ℕ = λ l. if is_in l.position then l.mass.0 else 0 in
    sum_by-append mass (map as_load (placed t prefix)) t.loose
    ∙ ap (λ x. x + loose_load is_in t.loose) (sum_by-map mass as_load (placed t prefix))

-- standing soundly is what a sound prefix does
pub sound-stands : (t : Problem) (prefix : List ℕ) → length prefix ≤ length t.items → StandsSoundly t.hold t.items prefix (stowed t.items prefix t.loose) ↔ IsSound t prefix
sound-stands t prefix short = (
  λ stands. record {
    short = short;
    accepted = stands.accepted;
    apart = λ i j d before within. (stands.compatible i j d before within).0;
    compatible = λ i j d before within. (stands.compatible i j d before within).1;
    combined = λ k d within.
        let c : Combined = get_or t.hold.combined k d in
        omega (arith, load-stowed (is_listed c.places) t prefix, stands.limits.combined k d within);
    cumulative = λ k d within.
        let c : Cumulative = get_or t.hold.cumulative k d in
        omega (arith, load-stowed (is_counted c) t prefix, stands.limits.cumulative k d within);
  },
  λ sound. record {
    accepted = sound.accepted;
    compatible = λ i j d before within. (sound.apart i j d before within, sound.compatible i j d before within);
    limits = record {
      combined = λ k d within.
          let c : Combined = get_or t.hold.combined k d in
          omega (arith, load-stowed (is_listed c.places) t prefix, sound.combined k d within);
      cumulative = λ k d within.
          let c : Cumulative = get_or t.hold.cumulative k d in
          omega (arith, load-stowed (is_counted c) t prefix, sound.cumulative k d within);
    };
  },
)
