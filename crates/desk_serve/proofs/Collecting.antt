-- what there is for each door is there for all doors, in a list
use Rattle.std.proofs.Common.{◌≡◌, ℕ, zero, suc, List, [], ◌∷◌, length, Some, refl, ap, arith, subst}
use Rattle.std.specs.List.{slice_get}
use Rattle.std.proofs.lemmas.Option.{slice_get_within}

module _ {A D : Type 0} where
  abbrev pub AreEach : (ℕ → A → D → D → Type 0) → List A → List D → List D → Type 0
  AreEach P xs ds ds' = (i : ℕ) (x : A) (d d' : D) → slice_get xs i ≡ Some x → slice_get ds i ≡ Some d → slice_get ds' i ≡ Some d' → P i x d d'

  one_more : (P : ℕ → A → D → D → Type 0) (x : A) (d d' : D) (xs : List A) (ds ds' : List D) → P 0 x d d' → AreEach (λ i. P (suc i)) xs ds ds'
      → AreEach P (x ∷ xs) (d ∷ ds) (d' ∷ ds')
  one_more P x d d' xs ds ds' first more zero y e e' a b c =
      let same : x ≡ y = (let q : Some x ≡ Some y = a in cc) in
      let one : d ≡ e = (let q : Some d ≡ Some e = b in cc) in
      let other : d' ≡ e' = (let q : Some d' ≡ Some e' = c in cc) in
      subst (λ u. P 0 u e e') same (subst (λ u. P 0 x u e') one (subst (λ u. P 0 x d u) other first))
  one_more P x d d' xs ds ds' first more (suc i) y e e' a b c = more i y e e' a b c

  pub collected : (P : ℕ → A → D → D → Type 0) (ds ds' : List D) → length ds' ≡ length ds
      → ((i : ℕ) (d d' : D) → slice_get ds i ≡ Some d → slice_get ds' i ≡ Some d' → (x : A) × P i x d d')
      → (xs : List A) × (length xs ≡ length ds) × AreEach P xs ds ds'
  collected P [] ds' n each = ([], refl, λ i x d d' a b c. absurd (let lt = slice_get_within [] i d b in omega (arith, lt)))
  collected P (d ∷ ds) [] n each = absurd (let e : 0 ≡ suc (length ds) = n in omega (arith, e))
  collected P (d ∷ ds) (d' ∷ ds') n each =
      let first = each 0 d d' refl refl in
      let more = collected (λ i. P (suc i)) ds ds' (let e : suc (length ds') ≡ suc (length ds) = n in omega (arith, e)) (λ i e e' a b. each (suc i) e e' a b) in
      (first.0 ∷ more.0, ap (λ (k : ℕ). suc k) more.1, one_more P first.0 d d' more.0 ds ds' first.1 more.2)
