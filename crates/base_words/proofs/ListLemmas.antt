-- what a loop that looks for the first place knows
use Rattle.std.proofs.Common.{◌≡◌, ℕ, zero, suc, ◌+◌, ◌<◌, Bool, true, false, Some, None, refl, arith, add-one}
use Rattle.std.proofs.Common.{⊎_elim}
use Rattle.std.proofs.Math.Nat.{eq-or-lt_of_le}
use Rattle.base_words.specs.Lists.{first_below}

-- none below n passes, and n does not: none below n + 1 passes
pub first_below-none : (test : ℕ → Bool) (n : ℕ) → first_below test n ≡ None → test n ≡ false → first_below test (n + 1) ≡ None
first_below-none test n below here = rw (add-one, below, here) refl

-- none below n passes, and n does: n is the least below any greater number
pub first_below-some : (test : ℕ → Bool) (n m : ℕ) → first_below test n ≡ None → test n ≡ true → n < m → first_below test m ≡ Some n
first_below-some test n zero below here less = absurd (omega arith)
first_below-some test n (suc m) below here less = ⊎_elim
    (λ (same : n ≡ m). rw (← same, below, here) refl)
    (λ (lower : n < m). rw (first_below-some test n m below here lower) refl)
    (eq-or-lt_of_le (omega arith))

-- both, for the loops that look for a first place
pub ruleset first_steps = (first_below-none, first_below-some)
