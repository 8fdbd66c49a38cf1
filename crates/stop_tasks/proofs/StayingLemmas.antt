-- which elements stay until a sector, taken from the list one after another
use Rattle.std.proofs.Common.{◌≡◌, ◌⊎◌, ⊎_elim, ℕ, ◌+◌, ◌<◌, ◌≤◌, min, true, false, List, [], ◌∷◌, length, get_or, drop, nat_le, add-one, refl, arith}
use Rattle.std.proofs.lemmas.List.{drop_all}
use Rattle.std.proofs.Math.Seq.{drop-cons}
use Rattle.stop_tasks.specs.Stops.{staying}

-- an element with an earlier last sector does not stay
pub staying-passed : {X : Type 0} (xs : List X) (last : List ℕ) (number i : ℕ) → i < length xs → i < length last → nat_le number (get_or last i 0) ≡ false
    → staying (drop i xs) (drop i last) number ≡ staying (drop (i + 1) xs) (drop (i + 1) last) number
staying-passed [] last number i within listed earlier = absurd (omega arith)
staying-passed (x ∷ xs) last number i within listed earlier = rw (add-one, drop-cons (x ∷ xs) i x, drop-cons last i 0, earlier) refl

-- and one with no earlier last sector does
pub staying-taken : {X : Type 0} (xs : List X) (last : List ℕ) (number i : ℕ) (d : X) → i < length xs → i < length last → nat_le number (get_or last i 0) ≡ true
    → staying (drop i xs) (drop i last) number ≡ get_or xs i d ∷ staying (drop (i + 1) xs) (drop (i + 1) last) number
staying-taken xs last number i d within listed later = rw (add-one, drop-cons xs i d, drop-cons last i 0, later) refl

-- past the end of either list none stays
pub staying-past : {X : Type 0} (xs : List X) (last : List ℕ) (number i : ℕ) → i ≡ min (length xs) (length last) → staying (drop i xs) (drop i last) number ≡ []
staying-past {X} xs last number i end = ⊎_elim
    (λ (past : length xs ≤ i). rw (drop_all i xs past) refl)
    (λ (past : length last ≤ i). rw (drop_all i last past) (none-listed (drop i xs)))
    (either-past (length xs) (length last) i end)
  where
    none-listed : (ys : List X) → staying ys [] number ≡ []
    none-listed [] = refl
    none-listed (y ∷ ys) = refl

    either-past : (m n i : ℕ) → i ≡ min m n → (m ≤ i) ⊎ (n ≤ i)
    either-past m n i end = grind arith
