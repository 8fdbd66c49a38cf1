-- the way that the positions of candidates are
use Rattle.std.proofs.Common.{◌≡◌, ⊎_elim, ℕ, zero, suc, ◌+◌, ◌*◌, ◌<◌, ◌≤◌, List, [], ◌∷◌, None, Some, length, take, map, get_or, true, false, ◌||◌, ◌==◌, refl, ap, sym, ◌∙◌, arith, below_more}
use Rattle.std.specs.Prelude.{ℤ, ◌+ℤ◌}
use Rattle.std.specs.List.{AllZip}
use Rattle.std.specs.declared.option.Option.{Option}
use Rattle.std.proofs.lemmas.Int.{ints}
use Rattle.std.proofs.lemmas.Bool.{cases_lt, false≢true}
use Rattle.std.proofs.lemmas.List.{take_all}
use Rattle.std.proofs.lemmas.Bool.Decides.{eqb_tells}
use Rattle.position_set.specs.declared.set.PositionSet.{PositionSet}
use Rattle.position_set.specs.Sets.{has}
use Rattle.assignment.specs.declared.candidate.Candidate.{Candidate}
use Rattle.assignment.specs.Ways.{IsWay, cost_of}
use Rattle.assignment.specs.Costs.{MayStand, cost_in}
use Rattle.assignment.specs.Standings.{greatest_cost}
use Rattle.assignment.specs.Tables.{nobody, number_at, IsWithin}
use Rattle.assignment.proofs.Totals.{pairs-apart}

-- the positions of candidates that have one
abbrev place_of : Option ℕ → ℕ
place_of None = 0
place_of (Some position) = position

abbrev pub way_of : List (Option ℕ) → List ℕ
way_of stands = map place_of stands

pub way-at : (stands : List (Option ℕ)) (n position : ℕ) → get_or stands n None ≡ Some position → number_at (way_of stands) n ≡ position
way-at [] n position stand = absurd (cc)
way-at (first ∷ stands) zero position stand = ap place_of stand
way-at (first ∷ stands) (suc n) position stand = way-at stands n position stand

pub way-length : (stands : List (Option ℕ)) → length (way_of stands) ≡ length stands
way-length [] = refl
way-length (first ∷ stands) = ap suc (way-length stands)

-- the first candidates stand on positions of their own, which were taken, and cost so much there
pub record IsBegun (candidates : List Candidate) (influences : List ℤ) (way : List ℕ) (count : ℕ) (taken : PositionSet) (cost : ℤ) : Type 0 where
  pub may : (n : ℕ) → n < count → MayStand (get_or candidates n nobody) (number_at way n)
  pub taken_too : (n : ℕ) → n < count → has taken (number_at way n) ≡ true
  pub apart : (m n : ℕ) → m < count → n < count → number_at way m ≡ number_at way n → m ≡ n
  pub cost_is : cost ≡ cost_of (cost_in influences) (take count candidates) (take count way)
  pub near : IsWithin (greatest_cost * count) cost

cost-more : (cost : Candidate × ℕ → ℤ) (candidates : List Candidate) (way : List ℕ) (k : ℕ) → k < length candidates → k < length way
    → cost_of cost (take (suc k) candidates) (take (suc k) way) ≡ cost_of cost (take k candidates) (take k way) +ℤ cost (get_or candidates k nobody, number_at way k)
cost-more cost [] way k known placed = absurd (omega (arith, known))
cost-more cost (a ∷ candidates) [] k known placed = absurd (omega (arith, placed))
cost-more cost (a ∷ candidates) (q ∷ way) zero known placed = omega (arith, ints)
cost-more cost (a ∷ candidates) (q ∷ way) (suc k) known placed = omega (arith, ints, cost-more cost candidates way k (omega (arith, known)) (omega (arith, placed)))

module _ (candidates : List Candidate) (influences : List ℤ) (way : List ℕ) (k : ℕ) (taken more : PositionSet) (cost : ℤ)
    (begun : IsBegun candidates influences way k taken cost) (known : k < length candidates) (placed : k < length way)
    (open_too : MayStand (get_or candidates k nobody) (number_at way k)) (free : has taken (number_at way k) ≡ false)
    (with_it : (q : ℕ) → has more q ≡ (has taken q || (q == number_at way k)))
    (small : IsWithin greatest_cost (cost_in influences (get_or candidates k nobody, number_at way k))) where
  still-taken : (q : ℕ) → has taken q ≡ true → has more q ≡ true
  still-taken q one = with_it q ∙ rw one refl

  now-taken : has more (number_at way k) ≡ true
  now-taken = with_it (number_at way k) ∙ ⊎_elim (λ same. rw (free, same.0) refl) (λ apart. absurd (apart.1 refl)) (eqb_tells (number_at way k) (number_at way k))

  fresh : (n : ℕ) → n < k → number_at way n ≡ number_at way k → ⊥
  fresh n below same = false≢true (sym free ∙ ap (has taken) (sym same) ∙ begun.taken_too n below)

  pub begun-more : IsBegun candidates influences way (k + 1) more (cost +ℤ cost_in influences (get_or candidates k nobody, number_at way k))
  begun-more = record {
    may = below_more (λ (n : ℕ). MayStand (get_or candidates n nobody) (number_at way n)) k begun.may open_too;
    taken_too = below_more (λ (n : ℕ). has more (number_at way n) ≡ true) k (λ n below. still-taken (number_at way n) (begun.taken_too n below)) now-taken;
    apart = λ m n below_m below_n same. ⊎_elim
        (λ (earlier_m : m < k). ⊎_elim
        (λ (earlier_n : n < k). begun.apart m n earlier_m earlier_n same)
        (λ (last_n : k ≤ n). let is : n ≡ k = omega (arith, last_n, below_n) in absurd (fresh m earlier_m (same ∙ ap (number_at way) is)))
        (cases_lt n k))
        (λ (last_m : k ≤ m).
        let is : m ≡ k = omega (arith, last_m, below_m) in ⊎_elim
        (λ (earlier_n : n < k). absurd (fresh n earlier_n (sym same ∙ ap (number_at way) is)))
        (λ (last_n : k ≤ n). omega (arith, is, last_n, below_n))
        (cases_lt n k))
        (cases_lt m k);
    cost_is = rw (one-more) (ap (λ s. s +ℤ cost_in influences (get_or candidates k nobody, number_at way k)) begun.cost_is ∙ sym (cost-more (cost_in influences) candidates way k known placed));
    near = record { above = omega (arith, ints, begun.near.above, small.above); below = omega (arith, ints, begun.near.below, small.below) };
  }
    where
      one-more : k + 1 ≡ suc k
      one-more = omega arith

zip-up : (candidates : List Candidate) (way : List ℕ) → length way ≡ length candidates
    → ((n : ℕ) → n < length candidates → MayStand (get_or candidates n nobody) (number_at way n)) → AllZip MayStand candidates way
zip-up [] [] same each = tt
zip-up [] (q ∷ way) same each = absurd (omega (arith, same))
zip-up (a ∷ candidates) [] same each = absurd (omega (arith, same))
zip-up (a ∷ candidates) (q ∷ way) same each = (each 0 (omega arith), zip-up candidates way (omega (arith, same)) (λ n below. each (suc n) (omega (arith, below))))

pub begun-whole : (candidates : List Candidate) (influences : List ℤ) (way : List ℕ) (taken : PositionSet) (cost : ℤ) → IsBegun candidates influences way (length candidates) taken cost
    → length way ≡ length candidates → (IsWay MayStand candidates way) × (cost_of (cost_in influences) candidates way ≡ cost)
begun-whole candidates influences way taken cost begun same = (
  record {
    each = zip-up candidates way same begun.may;
    apart = pairs-apart way (λ m n below_m below_n. begun.apart m n (omega (arith, below_m, same)) (omega (arith, below_n, same)));
  },
  sym (begun.cost_is ∙ rw (take_all (length candidates) candidates (omega arith), take_all (length candidates) way (omega (arith, same))) refl),
)
