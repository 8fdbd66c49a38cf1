-- a set of the numbers below another that pass a test, one number more at a time
use Rattle.std.proofs.Common.{◌≡◌, ⊎_elim, ℕ, ◌+◌, Bool, true, false, ◌&&◌, ◌||◌, ◌==◌, nat_lt, refl, ap, ap₂, sym, ◌∙◌, arith}
use Rattle.std.proofs.lemmas.Bool.Decides.{nat_tests, eqb_tells}
use Rattle.position_set.specs.declared.set.PositionSet.{PositionSet}
use Rattle.position_set.specs.Sets.{has, Stands}

lt-more : (q n : ℕ) → nat_lt q (n + 1) ≡ (nat_lt q n || (q == n))
lt-more q n = grind (arith, nat_tests)

spread : (a b t : Bool) → ((a || b) && t) ≡ ((a && t) || (t && b))
spread true true true = refl
spread true true false = refl
spread true false true = refl
spread true false false = refl
spread false true true = refl
spread false true false = refl
spread false false true = refl
spread false false false = refl

both-false : (a b : Bool) → (a && false) ≡ (b && false)
both-false true true = refl
both-false true false = refl
both-false false true = refl
both-false false false = refl

at-equal : (test : ℕ → Bool) (q n : ℕ) → (test q && (q == n)) ≡ (test n && (q == n))
at-equal test q n = ⊎_elim
    (λ same. ap (λ k. test k && (q == n)) same.1)
    (λ other. rw other.0 (both-false (test q) (test n)))
    (eqb_tells q n)

-- the set of those below n + 1 is that of those below n, with n where it passes
pub stands-more : (test : ℕ → Bool) (set more : PositionSet) (n : ℕ) (passes : Bool) → Stands set (λ q. nat_lt q n && test q)
    → ((q : ℕ) → has more q ≡ (has set q || (passes && (q == n)))) → passes ≡ test n → Stands more (λ q. nat_lt q (n + 1) && test q)
stands-more test set more n passes stands with is = λ q.
    with q
    ∙ ap₂ (λ a b. a || (b && (q == n))) (stands q) is
    ∙ sym (ap (λ b. b && test q) (lt-more q n) ∙ spread (nat_lt q n) (q == n) (test q) ∙ ap (λ b. (nat_lt q n && test q) || b) (at-equal test q n))
