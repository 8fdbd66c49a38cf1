-- Lists split at the elements that pass a test.
use Rattle.std.proofs.Common.{◌≡◌, ℕ, suc, ◌+◌, ◌<◌, Bool, true, false, cond, List, [], ◌∷◌, ◌++◌, length, get_or, take, drop, Some, None, refl, sym, ap, subst, ◌∙◌, arith, append_assoc}
use Rattle.std.specs.List.{position, position_or_len, slice_split, All, AllPairs, filter}
use Rattle.std.proofs.lemmas.Bool.{ltb-false}
use Rattle.std.proofs.lemmas.List.{append-nil, take-append-drop, drop_more, get_or-take, length-take}
use Rattle.std.proofs.lemmas.List.Elements.{All-nil, All-cons, All-head, All-tail, All-push, All-from_get_or}
use Rattle.std.proofs.lemmas.List.Sums.{fails_before_first}
use Rattle.std.proofs.lemmas.List.Quantifiers.{position-Some}
use Rattle.std.proofs.lemmas.List.Splits.{slice_split_at, slice_split_none}

module _ {X : Type 0} (P : X → Type 0) where
  -- what holds of each element of two lists together holds of each element of either
  pub All-left : (xs ys : List X) → All P (xs ++ ys) → All P xs
  All-left [] ys h = All-nil P
  All-left (x ∷ xs) ys h = All-cons P x xs (All-head P x (xs ++ ys) h) (All-left xs ys (All-tail P x (xs ++ ys) h))

  pub All-right : (xs ys : List X) → All P (xs ++ ys) → All P ys
  All-right [] ys h = h
  All-right (x ∷ xs) ys h = All-right xs ys (All-tail P x (xs ++ ys) h)

module _ {X : Type 0} (R : X → X → Type 0) where
  pub AllPairs-head : (x : X) (xs : List X) → AllPairs R (x ∷ xs) → All (R x) xs
  AllPairs-head x xs h = λ k d l. h 0 (suc k) d (omega arith) (omega arith)

  pub AllPairs-tail : (x : X) (xs : List X) → AllPairs R (x ∷ xs) → AllPairs R xs
  AllPairs-tail x xs h = λ i j d less within. h (suc i) (suc j) d (omega arith) (omega arith)

module _ {X : Type 0} (p : X → Bool) where
  -- the element does not pass
  abbrev pub Fails : X → Type 0
  Fails x = p x ≡ false

  -- an induction over what precedes each element that passes
  pub by_cuts : (P : List X → Type 0)
      → ((xs : List X) → All Fails xs → P xs)
      → ((xs : List X) (y : X) (ys : List X) → All Fails xs → p y ≡ true → P ys → P (xs ++ y ∷ ys))
      → (front xs : List X) → All Fails front → P (front ++ xs)
  by_cuts P last more front [] clean = last (front ++ []) (subst (All Fails) (sym (append-nil front)) clean)
  by_cuts P last more front (y ∷ xs) clean =
      elim (p y) as (λ b. p y ≡ b → P (front ++ y ∷ xs)) [
        | true ↦ λ passes. more front y xs clean passes (by_cuts P last more [] xs (All-nil Fails))
        | false ↦ λ fails. subst P (append_assoc front (y ∷ []) xs) (by_cuts P last more (front ++ y ∷ []) xs (All-push Fails front y clean fails))
      ] refl

  -- if no element is the first that passes, none passes
  pub All-from_no_position : (xs : List X) → position p xs ≡ None → All Fails xs
  All-from_no_position xs none = λ k d l. fails_before_first p xs k d (omega (arith, l, ltb-false (position_or_len p xs) (length xs) (none_false _ _ none)))
    where
      none_false : (b : Bool) (n : ℕ) → cond b (Some n) None ≡ None → b ≡ false
      none_false true n e = cc
      none_false false n e = refl

  -- a list at its first element that passes
  pub record IsCutAt (xs : List X) (k : ℕ) (d : X) : Type 0 where
    pub within : k < length xs
    pub clean : All Fails (take k xs)
    pub passes : p (get_or xs k d) ≡ true
    pub is : xs ≡ take k xs ++ get_or xs k d ∷ drop (k + 1) xs

  pub IsCutAt-from_position : (xs : List X) (k : ℕ) (d : X) → position p xs ≡ Some k → IsCutAt xs k d
  IsCutAt-from_position xs k d found =
      let first = position-Some p xs k d found in
      record {
        within = first.0;
        clean = All-from_get_or Fails (take k xs) d (λ j l.
            let before : j < k = omega (arith, length-take k xs) in
            subst Fails (sym (get_or-take k xs j d before)) (first.2 j before));
        passes = first.1;
        is = sym (take-append-drop k xs) ∙ ap (λ rest. take k xs ++ rest) (drop_more xs k d first.0);
      }

  -- the pieces between the elements that pass contain none of them
  pub slice_split-apart : (xs : List X) → All (All Fails) (slice_split p xs)
  slice_split-apart xs =
      by_cuts (λ xs. All (All Fails) (slice_split p xs))
      (λ xs clean. subst (All (All Fails)) (sym (slice_split_none p xs clean)) (All-cons (All Fails) xs [] clean (All-nil (All Fails))))
      (λ xs y ys clean passes rest. subst (All (All Fails)) (sym (slice_split_at p xs y ys clean passes)) (All-cons (All Fails) xs _ clean rest))
      [] xs (All-nil Fails)

  -- what holds of each element holds of each element of each piece
  pub slice_split-All : (Q : X → Type 0) (xs : List X) → All Q xs → All (All Q) (slice_split p xs)
  slice_split-All Q xs =
      by_cuts (λ xs. All Q xs → All (All Q) (slice_split p xs))
      (λ xs clean h. subst (All (All Q)) (sym (slice_split_none p xs clean)) (All-cons (All Q) xs [] h (All-nil (All Q))))
      (λ xs y ys clean passes rest h. subst (All (All Q)) (sym (slice_split_at p xs y ys clean passes))
      (All-cons (All Q) xs _ (All-left Q xs (y ∷ ys) h) (rest (All-tail Q y ys (All-right Q xs (y ∷ ys) h)))))
      [] xs (All-nil Fails)

  -- an element that passes at the end adds an empty piece
  pub slice_split-push : (xs : List X) (y : X) → p y ≡ true → slice_split p (xs ++ y ∷ []) ≡ slice_split p xs ++ [] ∷ []
  slice_split-push xs y hit =
      by_cuts (λ xs. slice_split p (xs ++ y ∷ []) ≡ slice_split p xs ++ [] ∷ [])
      (λ xs clean. slice_split_at p xs y [] clean hit ∙ ap (λ ps. ps ++ [] ∷ []) (sym (slice_split_none p xs clean)))
      (λ xs z ys clean passes rest.
      ap (slice_split p) (append_assoc xs (z ∷ ys) (y ∷ [])) ∙ slice_split_at p xs z (ys ++ y ∷ []) clean passes
      ∙ ap (λ ps. xs ∷ ps) rest ∙ ap (λ ps. ps ++ [] ∷ []) (sym (slice_split_at p xs z ys clean passes)))
      [] xs (All-nil Fails)

  -- a filter of a list where none passes is empty
  pub filter-none : (xs : List X) → All Fails xs → filter p xs ≡ []
  filter-none [] clean = refl
  filter-none (x ∷ xs) clean =
      let kept : Bool → List X = λ b. cond b (x ∷ filter p xs) (filter p xs) in
      let fails : p x ≡ false = All-head Fails x xs clean in
      ap kept fails ∙ filter-none xs (All-tail Fails x xs clean)
