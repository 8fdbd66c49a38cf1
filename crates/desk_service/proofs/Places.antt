-- entries with their places, in histories that go on
use Rattle.std.proofs.Common.{◌≡◌, ◌≢◌, ◌==◌, ◌+◌, ◌≤◌, ℕ, List, [], ◌∷◌, ◌++◌, length, true, false, refl, sym, ap, ◌∙◌, subst, arith, append-nil, append_assoc}
use Rattle.std.specs.List.{All}
use Rattle.std.proofs.lemmas.Bool.Decides.{nat_tests}
use Rattle.std.proofs.lemmas.List.{append_cancel_left}
use Rattle.std.proofs.lemmas.List.Elements.{All-head, All-tail, All-nil, All-cons}
use Rattle.desk_service.specs.Places.{Stands, GoesOn, placed_if, placed_from, placed}

module _ {E : Type 0} where
  pub same_history : (xs ys : List E) → ys ≡ xs → GoesOn xs ys
  same_history xs ys same = record { rest = []; is = same ∙ sym (append-nil xs) }

  pub goes_on : (a b c : List E) → GoesOn a b → GoesOn b c → GoesOn a c
  goes_on a b c f g = record { rest = f.rest ++ g.rest; is = g.is ∙ (ap (λ xs. xs ++ g.rest) f.is ∙ append_assoc a f.rest g.rest) }

  -- what stands in a history stands in each that continues it
  pub stands_on : (h h' : List E) (place : ℕ) (before : List E) (e : E) → Stands h place before e → GoesOn h h' → Stands h' place before e
  stands_on h h' place before e s g = record {
    after = s.after ++ g.rest;
    at = g.is ∙ (ap (λ xs. xs ++ g.rest) s.at ∙ append_assoc before (e ∷ s.after) g.rest);
    long = s.long;
  }

  module _ (desk_of : E → ℕ) (n : ℕ) where
    placed-append : (k : ℕ) (xs ys : List E) → placed_from desk_of n k (xs ++ ys) ≡ placed_from desk_of n k xs ++ placed_from desk_of n (k + length xs) ys
    unfolding placed_from
    placed-append k [] ys = ap (λ j. placed_from desk_of n j ys) (let e : k ≡ k + 0 = omega arith in e)
    placed-append k (x ∷ xs) ys =
        ap (λ zs. placed_if (desk_of x == n) k x ++ zs) (placed-append (k + 1) xs ys ∙ ap (λ j. placed_from desk_of n (k + 1) xs ++ placed_from desk_of n j ys) (let e : (k + 1) + length xs ≡ k + length (x ∷ xs) = omega arith in e))
        ∙ sym (append_assoc (placed_if (desk_of x == n) k x) (placed_from desk_of n (k + 1) xs) (placed_from desk_of n (k + length (x ∷ xs)) ys))

    placed_none : (k : ℕ) (xs : List E) → All (λ e. desk_of e ≢ n) xs → placed_from desk_of n k xs ≡ []
    unfolding placed_from
    placed_none k [] h = refl
    placed_none k (x ∷ xs) h =
        let ne = All-head (λ e. desk_of e ≢ n) x xs h in
        let f : (desk_of x == n) ≡ false = grind (arith, nat_tests) in
        rw f (placed_none (k + 1) xs (All-tail (λ e. desk_of e ≢ n) x xs h))

    placed_single : (k : ℕ) (e : E) → desk_of e ≡ n → placed_from desk_of n k (e ∷ []) ≡ (k, e) ∷ []
    unfolding placed_from
    placed_single k e by = let t : (desk_of e == n) ≡ true = grind (arith, nat_tests) in rw t refl

    -- entries of other desks add none
    pub placed_others : (xs ys : List E) → All (λ e. desk_of e ≢ n) ys → placed desk_of n (xs ++ ys) ≡ placed desk_of n xs
    placed_others xs ys h = placed-append 0 xs ys ∙ (ap (λ zs. placed desk_of n xs ++ zs) (placed_none (0 + length xs) ys h) ∙ append-nil (placed desk_of n xs))

    -- an entry of the desk adds itself
    pub placed_own : (xs : List E) (e : E) → desk_of e ≡ n → placed desk_of n (xs ++ e ∷ []) ≡ placed desk_of n xs ++ (length xs, e) ∷ []
    placed_own xs e by = placed-append 0 xs (e ∷ []) ∙ ap (λ zs. placed desk_of n xs ++ zs) (placed_single (0 + length xs) e by ∙ ap (λ k. (k, e) ∷ []) (let e : 0 + length xs ≡ length xs = omega arith in e))

    -- the places rise from the first one on
    from_first : (k least : ℕ) (xs : List E) → least ≤ k → All (λ (one : ℕ × E). least ≤ one.0) (placed_from desk_of n k xs)
    unfolding placed_from
    from_first k least [] h = All-nil _
    from_first k least (x ∷ xs) h = elim (desk_of x == n) as (λ b. All (λ (one : ℕ × E). least ≤ one.0) (placed_if b k x ++ placed_from desk_of n (k + 1) xs)) [
      | true ↦ All-cons (λ (one : ℕ × E). least ≤ one.0) (k, x) (placed_from desk_of n (k + 1) xs) h (from_first (k + 1) least xs (omega (arith, h)))
      | false ↦ from_first (k + 1) least xs (omega (arith, h))
    ]

    -- what a longer history adds to the entries of a desk stands behind the shorter one
    pub placed_behind : (xs ys : List E) (more : List (ℕ × E)) → GoesOn xs ys → placed desk_of n ys ≡ placed desk_of n xs ++ more
        → All (λ (one : ℕ × E). length xs ≤ one.0) more
    placed_behind xs ys more g own =
        let here = placed-append 0 xs g.rest in
        let same : placed_from desk_of n (0 + length xs) g.rest ≡ more = append_cancel_left (placed desk_of n xs) (placed_from desk_of n (0 + length xs) g.rest) more
        (sym here ∙ (ap (placed desk_of n) (sym g.is) ∙ own)) in
        subst (λ (ones : List (ℕ × E)). All (λ (one : ℕ × E). length xs ≤ one.0) ones) same (from_first (0 + length xs) (length xs) g.rest (omega arith))
