-- lists with one element more
use Rattle.std.proofs.Common.{◌≡◌, ◌≢◌, ⊎_elim, ℕ, zero, suc, ◌+◌, ◌<◌, ◌≤◌, List, [], ◌∷◌, ◌++◌, map, zip, length, take, drop, get_or, set, Some, min, refl, ap, sym, subst, ◌∙◌, arith, get_or-set_same, get_or-set_other}
use Rattle.std.specs.Prelude.{slice_get}
use Rattle.std.proofs.Math.Nat.{eq-or-lt_of_le}
use Rattle.std.proofs.lemmas.List.{take_more, drop_more, map-append}
use Rattle.std.proofs.lemmas.Option.{none-some, same_Some, slice_get_within, get_or_from_slice_get}

-- the images of the first elements, with the next one's
pub map-more : {X Y : Type 0} (f : X → Y) (xs : List X) (k : ℕ) (x : X) (ys : List Y) (y : Y) → slice_get xs k ≡ Some x → ys ≡ map f (take k xs) → y ≡ f x → ys ++ y ∷ [] ≡ map f (take (k + 1) xs)
map-more f xs k x ys y there so_far is =
    ap (λ zs. zs ++ y ∷ []) so_far
    ∙ ap (λ z. map f (take k xs) ++ z ∷ []) (is ∙ ap f (sym (get_or_from_slice_get xs k x x there)))
    ∙ sym (ap (map f) (take_more xs k x (slice_get_within xs k x there)) ∙ map-append f (take k xs) (get_or xs k x ∷ []))

pub map-push : {X Y : Type 0} (f : X → Y) (xs : List X) (x : X) → map f (xs ++ x ∷ []) ≡ map f xs ++ f x ∷ []
map-push f xs x = map-append f xs (x ∷ [])

-- the images at a place
pub map-at : {X Y : Type 0} (f : X → Y) (xs : List X) (k : ℕ) (x : X) (d : Y) → slice_get xs k ≡ Some x → get_or (map f xs) k d ≡ f x
map-at f [] k x d there = absurd (none-some x there)
map-at f (y ∷ xs) zero x d there = ap f (same_Some y x there)
map-at f (y ∷ xs) (suc k) x d there = map-at f xs k x d there

pub drop-at : {X : Type 0} (xs : List X) (k : ℕ) (x : X) → slice_get xs k ≡ Some x → drop k xs ≡ x ∷ drop (k + 1) xs
drop-at xs k x there = drop_more xs k x (slice_get_within xs k x there) ∙ ap (λ y. y ∷ drop (k + 1) xs) (get_or_from_slice_get xs k x x there)

pub take-at : {X : Type 0} (xs : List X) (k : ℕ) (x : X) → slice_get xs k ≡ Some x → take (k + 1) xs ≡ take k xs ++ x ∷ []
take-at xs k x there = take_more xs k x (slice_get_within xs k x there) ∙ ap (λ y. take k xs ++ y ∷ []) (get_or_from_slice_get xs k x x there)

-- what holds of each entry, by its place, holds with one entry more written at i, which is n
pub each-set : {X : Type 0} (P : ℕ → X → Type 0) (xs : List X) (n i : ℕ) (x : X) → i ≡ n → n < length xs → ((k : ℕ) (d : X) → k < n → P k (get_or xs k d)) → P n x
    → (k : ℕ) (d : X) → k < n + 1 → P k (get_or (set xs i x) k d)
each-set P xs n i x is within each here k d less = ⊎_elim
    (λ (same : k ≡ n). subst (λ j. P k (get_or (set xs j x) k d)) (same ∙ sym is) (subst (P k) (sym (get_or-set_same xs k x d (omega (arith, same, within)))) (subst (λ j. P j x) (sym same) here)))
    (λ (below : k < n). let other : k ≢ i = omega (arith, below, is) in subst (P k) (sym (get_or-set_other xs i k x d other)) (each k d below))
    (eq-or-lt_of_le (omega (arith, less)))

-- the same, written from the last entry on
pub each-set_down : {X : Type 0} (P : ℕ → X → Type 0) (xs : List X) (n m : ℕ) (x : X) → n + 1 ≡ m → n < length xs → ((k : ℕ) (d : X) → m ≤ k → P k (get_or xs k d)) → P n x
    → (k : ℕ) (d : X) → n ≤ k → P k (get_or (set xs n x) k d)
each-set_down P xs n m x next within each here k d from = ⊎_elim
    (λ (same : n ≡ k). subst (λ j. P j (get_or (set xs n x) j d)) same (subst (P n) (sym (get_or-set_same xs n x d within)) here))
    (λ (less : n < k). let other : k ≢ n = omega (arith, less) in subst (P k) (sym (get_or-set_other xs n k x d other)) (each k d (omega (arith, less, next))))
    (eq-or-lt_of_le from)

pub zip-at : {X Y : Type 0} (xs : List X) (ys : List Y) (k : ℕ) (x : X) (y : Y) → slice_get xs k ≡ Some x → slice_get ys k ≡ Some y → slice_get (zip xs ys) k ≡ Some (x, y)
zip-at [] ys k x y here there = absurd (none-some x here)
zip-at (a ∷ xs) [] k x y here there = absurd (none-some y there)
zip-at (a ∷ xs) (b ∷ ys) zero x y here there = let first : a ≡ x = same_Some a x here in let second : b ≡ y = same_Some b y there in rw (first, second) refl
zip-at (a ∷ xs) (b ∷ ys) (suc k) x y here there = zip-at xs ys k x y here there

pub length-zip : {X Y : Type 0} (xs : List X) (ys : List Y) → length ys ≤ length xs → length (zip xs ys) ≡ length ys
length-zip [] [] few = refl
length-zip [] (b ∷ ys) few = absurd (omega (arith, few))
length-zip (a ∷ xs) [] few = refl
length-zip (a ∷ xs) (b ∷ ys) few = ap suc (length-zip xs ys (omega (arith, few)))

-- a list zipped is as long as it need be
pub zip-take : {X Y : Type 0} (xs : List X) (ys : List Y) (n : ℕ) → n ≡ min (length ys) (length xs) → zip xs (take n ys) ≡ zip xs ys
zip-take [] ys n is = nil (take n ys) ∙ sym (nil ys)
  where
    nil : {X Y : Type 0} (ys : List Y) → ◌≡◌ {A = List (X × Y)} (zip [] ys) []
    nil [] = refl
    nil (b ∷ ys) = refl
zip-take (a ∷ xs) [] n is = ap (zip (a ∷ xs)) (none n)
  where
    none : {Y : Type 0} (n : ℕ) → ◌≡◌ {A = List Y} (take n []) []
    none zero = refl
    none (suc n) = refl
zip-take (a ∷ xs) (b ∷ ys) zero is = absurd (omega (arith, is))
zip-take (a ∷ xs) (b ∷ ys) (suc n) is = ap (λ zs. (a, b) ∷ zs) (zip-take xs ys n (omega (arith, is)))
