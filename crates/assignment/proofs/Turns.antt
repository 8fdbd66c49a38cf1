-- candidates change their positions along a branch, and each pair stays tight
use Rattle.std.proofs.Common.{◌≡◌, ⊎_elim, ℕ, ◌+◌, ◌<◌, ◌≢◌, List, [], ◌∷◌, ◌++◌, length, set, refl, ap, sym, ◌∙◌, arith}
use Rattle.std.specs.Prelude.{pos, ℤ}
use Rattle.std.proofs.Math.ListN.{length-set}
use Rattle.std.proofs.lemmas.Bool.{cases_eq}
use Rattle.std.proofs.lemmas.List.{get_or-set_same, get_or-set_other, length_push}
use Rattle.assignment.specs.declared.costs.CostTable.{CostTable}
use Rattle.assignment.specs.Prices.{price_at}
use Rattle.assignment.specs.Tables.{number_at, Lacks, AreApart}
use Rattle.assignment.specs.Standings.{IsTight, IsStanding}
use Rattle.assignment.specs.Trees.{AreBranches, IsTurning}
use Rattle.assignment.proofs.Pushes.{number-before, number-last, apart-push}

pub turning-start : (costs : CostTable) (items places : List ℤ) (stands members from : List ℕ) (position place : ℕ)
    → IsStanding costs items places stands → IsTight costs items places (number_at members place) position → Lacks stands position
    → IsTurning costs items places stands members stands position place
turning-start costs items places stands members from position place standing next beside = record {
  tight = standing.tight;
  apart = standing.apart;
  beside = beside;
  next = next;
  free = λ q lacks other. standing.free q lacks;
  unturned = λ j above below. refl;
}

-- the member at the place takes the hole, and leaves its position to the member from which it was reached
module _ (costs : CostTable) (items places : List ℤ) (start members from stands : List ℕ) (hole place : ℕ)
    (branches : AreBranches costs items places start members from) (turning : IsTurning costs items places start members stands hole place)
    (above : 0 < place) (within : place < length members) (same_length : length stands ≡ length start) where
  m : ℕ
  m = number_at members place

  left : ℕ
  left = number_at stands m

  known : m < length stands
  unfolding m
  known = let entered = branches.entered place above within in omega (arith, entered, same_length)

  at_other : (number : ℕ) → number ≢ m → number_at (set stands m hole) number ≡ number_at stands number
  at_other number other = get_or-set_other stands m number hole 0 other

  at_same : number_at (set stands m hole) m ≡ hole
  at_same = get_or-set_same stands m hole 0 known

  now_length : length (set stands m hole) ≡ length stands
  now_length = length-set stands m hole

  tight_now : (number : ℕ) → number < length (set stands m hole) → IsTight costs items places number (number_at (set stands m hole) number)
  unfolding m
  tight_now number below = ⊎_elim
      (λ (same : number ≡ m). rw (same, at_same) turning.next)
      (λ (other : number ≡ m → ⊥). rw (at_other number other) (turning.tight number (omega (arith, below, now_length))))
      (cases_eq number m)

  lacks_left : Lacks (set stands m hole) left
  unfolding left
  lacks_left number below is = ⊎_elim
      (λ (same : number ≡ m). turning.beside m known (sym is ∙ ap (number_at (set stands m hole)) same ∙ at_same))
      (λ (other : number ≡ m → ⊥). other (turning.apart number m (omega (arith, below, now_length)) known (sym (at_other number other) ∙ is)))
      (cases_eq number m)

  apart_now : AreApart (set stands m hole)
  apart_now one two below_one below_two is = ⊎_elim
      (λ (same : one ≡ m). ⊎_elim
      (λ (too : two ≡ m). same ∙ sym too)
      (λ (other : two ≡ m → ⊥). absurd (turning.beside two (omega (arith, below_two, now_length))
      (sym (at_other two other) ∙ sym is ∙ ap (number_at (set stands m hole)) same ∙ at_same)))
      (cases_eq two m))
      (λ (other_one : one ≡ m → ⊥). ⊎_elim
      (λ (too : two ≡ m). absurd (turning.beside one (omega (arith, below_one, now_length))
      (sym (at_other one other_one) ∙ is ∙ ap (number_at (set stands m hole)) too ∙ at_same)))
      (λ (other : two ≡ m → ⊥). turning.apart one two (omega (arith, below_one, now_length)) (omega (arith, below_two, now_length))
      (sym (at_other one other_one) ∙ is ∙ at_other two other))
      (cases_eq two m))
      (cases_eq one m)

  free_now : (position : ℕ) → Lacks (set stands m hole) position → position ≢ left → price_at places position ≡ pos 0
  unfolding left
  free_now position lacks other = turning.free position
      (λ number below is. ⊎_elim
      (λ (same : number ≡ m). other (sym is ∙ ap (number_at stands) same))
      (λ (apart : number ≡ m → ⊥). lacks number (omega (arith, below, now_length)) (at_other number apart ∙ is))
      (cases_eq number m))
      (λ same. lacks m (omega (arith, known, now_length)) (at_same ∙ sym same))

  next_now : IsTight costs items places (number_at members (number_at from place)) left
  unfolding left m
  next_now = rw (turning.unturned place above (omega arith)) (branches.tight place above within)

  unturned_now : (j : ℕ) → 0 < j → j < number_at from place + 1 → number_at (set stands m hole) (number_at members j) ≡ number_at start (number_at members j)
  unfolding m
  unturned_now j over below =
      let earlier = branches.earlier place above within in
      at_other (number_at members j) (λ same. let here : j ≡ place = branches.apart j place (omega (arith, below, earlier)) within same in omega (arith, here, below, earlier))
      ∙ turning.unturned j over (omega (arith, below, earlier))

  pub turning-more : IsTurning costs items places start members (set stands (number_at members place) hole) (number_at stands (number_at members place)) (number_at from place)
  unfolding m left
  turning-more = record {
    tight = tight_now;
    apart = apart_now;
    beside = lacks_left;
    next = next_now;
    free = free_now;
    unturned = unturned_now;
  }

-- the first member takes the last hole
module _ (costs : CostTable) (items places : List ℤ) (start members stands : List ℕ) (hole : ℕ)
    (standing : IsStanding costs items places start) (turning : IsTurning costs items places start members stands hole 0)
    (root : number_at members 0 ≡ length start) (same_length : length stands ≡ length start) (room : length start < length costs.candidates.now) where
  longer : length (stands ++ hole ∷ []) ≡ length stands + 1
  longer = length_push stands hole

  pub turning-end : IsStanding costs items places (stands ++ hole ∷ [])
  turning-end = record {
    prices = standing.prices;
    few = omega (arith, longer, same_length, room);
    tight = λ number below. ⊎_elim
        (λ (same : number ≡ length stands). rw (same, number-last stands hole, same_length, ← root) turning.next)
        (λ (other : number ≡ length stands → ⊥). rw (number-before stands hole number (omega (arith, below, longer, other))) (turning.tight number (omega (arith, below, longer, other))))
        (cases_eq number (length stands));
    free = λ position lacks. turning.free position
        (λ number below is. lacks number (omega (arith, below, longer)) (number-before stands hole number below ∙ is))
        (λ same. lacks (length stands) (omega (arith, longer)) (number-last stands hole ∙ sym same));
    apart = apart-push stands hole turning.apart turning.beside;
  }
