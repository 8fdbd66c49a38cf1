-- the containers that a prefix leaves, one by one
use Rattle.std.proofs.Common.{refl, ◌≡◌, ℕ, zero, suc, ◌+◌, ◌-◌, ◌<◌, ◌≤◌, ℤ, ◌+ℤ◌, unsigned_abs, w64, to_z, of_z, ap₂, List, [], ◌∷◌, length, Some, sym, ap, ◌∙◌, subst, arith, length-drop}
use Rattle.std.proofs.lemmas.Int.{ints, to_z-of_z}
use Rattle.std.proofs.lemmas.List.{get_or-drop}
use Rattle.std.proofs.lemmas.Option.{get_or_from_slice_get, slice_get-get_or, slice_get_within}
use Rattle.std.specs.Prelude.{slice_get}
use Rattle.std.specs.List.{AllZip}
use Rattle.hold_parts.specs.declared.parts.Item.{Item}
use Rattle.hold_limits.specs.Problem.{Problem}
use Rattle.hold_limits.specs.BranchOrder.{ordered}
use Rattle.hold_reach.specs.Reach.{remaining}
pub use Rattle.hold_partial.proofs.OpennessLemmas.{length-remaining}

pub rank-within : (t : Problem) (prefix : List ℕ) (at count : ℕ) → count ≡ length (remaining t prefix) → at < count → length prefix + at < length t.items
rank-within t prefix at count one_each within = omega (arith, one_each, within, length-remaining t prefix)

-- a container that is left, by its rank
pub remaining-at : (t : Problem) (prefix : List ℕ) (k : ℕ) (item : Item) → slice_get (remaining t prefix) k ≡ Some item → slice_get (ordered t.items) (length prefix + k) ≡ Some item
remaining-at t prefix k item there =
    let inside : k < length (remaining t prefix) = slice_get_within (remaining t prefix) k item there in
    let within : length prefix + k < length (ordered t.items) = omega (arith, inside, length-drop (length prefix) (ordered t.items)) in
    slice_get-get_or (ordered t.items) (length prefix + k) item within
    ∙ ap (λ x. Some x) (sym (get_or-drop (length prefix) (ordered t.items) k item) ∙ get_or_from_slice_get (remaining t prefix) k item item there)

pub some-at : {X : Type 0} (xs : List X) (k : ℕ) → k < length xs → (x : X) × (slice_get xs k ≡ Some x)
some-at [] k within = absurd (omega arith)
some-at (x ∷ xs) zero within = (x, refl)
some-at (x ∷ xs) (suc k) within = some-at xs k (omega arith)

-- what is said of each pair place by place
pub AllZip-from_places : {A B : Type 0} (R : A → B → Type 0) (xs : List A) (ys : List B) → length ys ≡ length xs
    → ((k : ℕ) (x : A) (y : B) → slice_get xs k ≡ Some x → slice_get ys k ≡ Some y → R x y) → AllZip R xs ys
AllZip-from_places R [] [] same each = tt
AllZip-from_places R [] (y ∷ ys) same each = absurd (omega (arith, same))
AllZip-from_places R (x ∷ xs) [] same each = absurd (omega (arith, same))
AllZip-from_places R (x ∷ xs) (y ∷ ys) same each =
    (each 0 x y refl refl, AllZip-from_places R xs ys (omega (arith, same)) (λ k a b first second. each (suc k) a b first second))

pub AllZip-at : {A B : Type 0} (R : A → B → Type 0) (xs : List A) (ys : List B) (k : ℕ) (x : A) (y : B) → AllZip R xs ys → slice_get xs k ≡ Some x → slice_get ys k ≡ Some y → R x y
AllZip-at R [] [] k x y all first second = absurd (cc)
AllZip-at R [] (b ∷ ys) k x y all first second = absurd all
AllZip-at R (a ∷ xs) [] k x y all first second = absurd all
AllZip-at R (a ∷ xs) (b ∷ ys) zero x y all first second = subst (λ u. R u y) (one_some first) (subst (R a) (one_some second) all.0)
  where
    one_some : {X : Type 0} {u v : X} → Some u ≡ Some v → u ≡ v
    one_some is = cc
AllZip-at R (a ∷ xs) (b ∷ ys) (suc k) x y all first second = AllZip-at R xs ys k x y all.1 first second

-- Numbers of the machine --------------------------------------------------------------------------

pub sum-fits : (x y : ℤ) → unsigned_abs x ≤ 10000000000000 → unsigned_abs y ≤ 10000000000000 → to_z w64 (of_z w64 (to_z w64 (of_z w64 x) +ℤ to_z w64 (of_z w64 y))) ≡ x +ℤ y
sum-fits x y small also =
    ap₂ (λ a b. to_z w64 (of_z w64 (a +ℤ b))) (to_z-of_z w64 x (omega (arith, ints, small))) (to_z-of_z w64 y (omega (arith, ints, also)))
    ∙ to_z-of_z w64 (x +ℤ y) (omega (arith, ints, small, also))

pub sums-fit : (x y z : ℤ) → unsigned_abs x ≤ 248000000000 → unsigned_abs y ≤ 640000000000000 → unsigned_abs z ≤ 640000000000000
    → to_z w64 (of_z w64 (to_z w64 (of_z w64 x) +ℤ to_z w64 (of_z w64 (to_z w64 (of_z w64 y) +ℤ to_z w64 (of_z w64 z))))) ≡ x +ℤ (y +ℤ z)
sums-fit x y z near one two =
    let later : to_z w64 (of_z w64 (to_z w64 (of_z w64 y) +ℤ to_z w64 (of_z w64 z))) ≡ y +ℤ z =
    ap₂ (λ a b. to_z w64 (of_z w64 (a +ℤ b))) (to_z-of_z w64 y (omega (arith, ints, one))) (to_z-of_z w64 z (omega (arith, ints, two)))
    ∙ to_z-of_z w64 (y +ℤ z) (omega (arith, ints, one, two)) in
    ap₂ (λ a b. to_z w64 (of_z w64 (a +ℤ b))) (to_z-of_z w64 x (omega (arith, ints, near))) later
    ∙ to_z-of_z w64 (x +ℤ (y +ℤ z)) (omega (arith, ints, near, one, two))
