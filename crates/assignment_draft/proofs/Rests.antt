-- sets with a number less or more
use Rattle.std.proofs.Common.{◌≡◌, ◌≢◌, ◌⊎◌, ⊎_elim, inl, inr, ℕ, ◌<◌, ◌≤◌, Bool, true, false, not, ◌&&◌, ◌||◌, ◌==◌, refl, ap, sym, ◌∙◌, arith, length}
use Rattle.std.proofs.lemmas.Bool.{cases_Bool, false≢true}
use Rattle.std.proofs.lemmas.Bool.Decides.{eqb_tells}
use Rattle.position_set.specs.declared.set.PositionSet.{PositionSet}
use Rattle.position_set.specs.Sets.{has, members}
use Rattle.position_set.proofs.MemberLemmas.{members-first}
use Rattle.assignment_draft.specs.Trees.{AreBelow}

pub and-left : (a b : Bool) → (a && b) ≡ true → a ≡ true
and-left true b both = refl
and-left false b both = both

or-none : (a b : Bool) → (a || b) ≡ false → (a ≡ false) × (b ≡ false)
or-none true b none = absurd (false≢true (sym none))
or-none false b none = (refl, none)

or-other : (a b : Bool) → b ≡ false → (a || b) ≡ true → a ≡ true
or-other true b none one = refl
or-other false b none one = absurd (false≢true (sym none ∙ one))

or-first : (a b : Bool) → a ≡ true → (a || b) ≡ true
or-first a b one = rw one refl

or-second : (a b : Bool) → b ≡ true → (a || b) ≡ true
or-second true b one = refl
or-second false b one = one

-- One number less --------------------------------------------------------------------------------

module _ (set rest : PositionSet) (p : ℕ) (without : (q : ℕ) → has rest q ≡ (has set q && not (q == p))) where
  -- what is left was there
  pub was-there : (q : ℕ) → has rest q ≡ true → has set q ≡ true
  was-there q left = and-left (has set q) (not (q == p)) (sym (without q) ∙ left)

  -- what is left is another number
  pub is-other : (q : ℕ) → has rest q ≡ true → q ≢ p
  is-other q left same = false≢true (sym (without q ∙ taken-out (has set q) q same) ∙ left)
    where
      taken-out : (a : Bool) (q : ℕ) → q ≡ p → (a && not (q == p)) ≡ false
      taken-out true q is = ⊎_elim (λ alike. rw alike.0 refl) (λ apart. absurd (apart.1 is)) (eqb_tells q p)
      taken-out false q is = refl

  -- what is not left is the number that was taken out, or was not there
  pub is-gone : (q : ℕ) → has rest q ≡ false → (q ≡ p) ⊎ (has set q ≡ false)
  is-gone q none = ⊎_elim
      (λ same. inl same.1)
      (λ apart. inr (⊎_elim
      (λ (one : has set q ≡ true). absurd (false≢true (sym none ∙ without q ∙ rw (one, apart.0) refl)))
      (λ (other : has set q ≡ false). other)
      (cases_Bool (has set q))))
      (eqb_tells q p)

  -- fewer are left
  pub are-fewer : p < 64 → has set p ≡ true → ((q : ℕ) → has set q ≡ true → p ≤ q) → length (members rest) < length (members set)
  are-fewer within there least = let first = ap length (members-first set rest p within there least without) in omega (arith, first)

-- One number more --------------------------------------------------------------------------------

module _ (set more : PositionSet) (p : ℕ) (with_it : (q : ℕ) → has more q ≡ (has set q || (q == p))) where
  -- it is there now
  pub is-there : (q : ℕ) → q ≡ p → has more q ≡ true
  is-there q same = with_it q ∙ or-second (has set q) (q == p) (⊎_elim (λ alike. alike.0) (λ apart. absurd (apart.1 same)) (eqb_tells q p))

  -- what is not there is another number, and was not
  pub not-there : (q : ℕ) → has more q ≡ false → (q ≢ p) × (has set q ≡ false)
  not-there q none = (
    λ same. false≢true (sym none ∙ is-there q same),
    (or-none (has set q) (q == p) (sym (with_it q) ∙ none)).0,
  )

  -- what is there is the number, or was there
  pub new-or-old : (q : ℕ) → has more q ≡ true → (q ≡ p) ⊎ (has set q ≡ true)
  new-or-old q there = ⊎_elim (λ alike. inl alike.1) (λ apart. inr (or-other (has set q) (q == p) apart.0 (sym (with_it q) ∙ there))) (eqb_tells q p)

  -- numbers below so many, with one more of them
  pub below-with : (count : ℕ) → AreBelow count set → p < count → AreBelow count more
  below-with count below within q there = ⊎_elim (λ (same : q ≡ p). rw same within) (λ (old : has set q ≡ true). below q old) (new-or-old q there)
