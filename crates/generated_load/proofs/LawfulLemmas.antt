-- the load is lawful for every number
use Rattle.std.proofs.Common.{◌≡◌, ◌≤◌, ℕ, true, false, nat_lt, ⊎_elim, [], ◌∷◌, map, length, get_or, codes, None, refl, arith, ◌%◌, ◌+◌, ◌*◌}
use Rattle.std.specs.Prelude.{All, position}
use Rattle.std.specs.List.{range_with_len}
use Rattle.std.proofs.lemmas.List.Elements.{All-from_recursion, All-map}
use Rattle.std.proofs.lemmas.Nat.{mod_below}
use Rattle.std.proofs.lemmas.Bool.{cases_Bool}
use Rattle.base_words.specs.Lists.{first_repeat}
use Rattle.hold_parts.specs.declared.parts.Position.{Position}
use Rattle.hold_parts.specs.declared.parts.Item.{Item}
use Rattle.hold_parts.specs.declared.parts.Combined.{Combined}
use Rattle.hold_parts.specs.declared.parts.Cumulative.{Cumulative}
use Rattle.hold_parts.specs.declared.lists.Fit.{Fit}
use Rattle.hold_parts.specs.Repeats.{same_id}
use Rattle.base_words.specs.Letters.{IsCapital}
use Rattle.hold_parts.specs.Spellings.{IsKind}
use Rattle.hold_limits.specs.Faults.{hold_fault, task_fault, IsWellSpelled, is_too_heavy}
use Rattle.hold_limits.proofs.FaultLemmas.{Refuses, refuses-over, guards-position}
use Rattle.generated_load.specs.Load.{generated_position, generated_positions, generated_hold, generated_item, generated_items, generated_mass, generated_problem}

pub hold-is-right : hold_fault generated_hold ≡ None
unfolding generated_positions
hold-is-right = refl

identities-differ : (number : ℕ) → first_repeat same_id (generated_items number) ≡ None
unfolding generated_items
identities-differ number = refl

mass-bounded : (number k : ℕ) → generated_mass number k ≤ 20000
mass-bounded number k =
    let part = mod_below (k * k * (number % 997) + 37 * k) 900 (omega arith) in
    omega (arith, part)

IsLight : Item → Type 0
IsLight item = item.mass.0 ≤ 20000

each-light : (number k : ℕ) → IsLight (generated_item number k)
unfolding IsLight
each-light number k = mass-bounded number k

light-right : (item : Item) → Refuses (is_too_heavy item) (IsLight item)
unfolding IsLight
light-right item = refuses-over 20000 item.mass.0

masses-right : (number : ℕ) → position is_too_heavy (generated_items number) ≡ None
unfolding generated_items
masses-right number =
    (guards-position is_too_heavy IsLight light-right (map (generated_item number) (range_with_len 1 48))).1
    (All-map IsLight (generated_item number) (range_with_len 1 48) (λ k d within. each-light number (get_or (range_with_len 1 48) k d)))

HasDigit : Position → Type 0
HasDigit position = position.compartment ≤ 9

HasKinds : Position → Type 0
HasKinds position = All (λ (fit : Fit). IsKind fit.kind) position.fits

digit-right : (q : ℕ) → HasDigit (generated_position q)
unfolding HasDigit
digit-right q = ⊎_elim
    (λ (fore : nat_lt q 28 ≡ true). rw fore (omega arith))
    (λ (aft : nat_lt q 28 ≡ false). rw aft (omega arith))
    (cases_Bool (nat_lt q 28))

kind-right : IsKind (codes "AKE")
kind-right = record {
  three = refl;
  letters = All-from_recursion IsCapital (codes "AKE") ((omega arith, omega arith), ((omega arith, omega arith), ((omega arith, omega arith), tt)));
}

kinds-right : (q : ℕ) → HasKinds (generated_position q)
unfolding HasKinds
kinds-right q = All-from_recursion (λ (fit : Fit). IsKind fit.kind) (generated_position q).fits (kind-right, tt)

pub hold-is-well-spelled : IsWellSpelled generated_hold
unfolding generated_positions HasDigit HasKinds
hold-is-well-spelled = record {
  compartments = All-map HasDigit generated_position (range_with_len 0 64) (λ k d within. digit-right (get_or (range_with_len 0 64) k d));
  kinds = All-map HasKinds generated_position (range_with_len 0 64) (λ k d within. kinds-right (get_or (range_with_len 0 64) k d));
  combined = All-from_recursion (λ (limit : Combined). limit.most.0 ≤ 999999999) [] tt;
  cumulative = All-from_recursion (λ (limit : Cumulative). limit.most.0 ≤ 999999999) [] tt;
  lateral = tt;
}

forty-eight : (number : ℕ) → length (generated_items number) ≡ 48
unfolding generated_items
forty-eight number = refl

pub task-is-right : (number : ℕ) → task_fault (generated_problem number) ≡ None
task-is-right number = rw (identities-differ number, masses-right number, forty-eight number) refl
