-- the first of some parts of which a fact fails
use Rattle.std.proofs.Common.{◌≡◌, ⊎_elim, ℕ, zero, suc, ◌+◌, ◌<◌, List, [], ◌∷◌, length, take, Some, refl, sym, ◌∙◌, subst, arith, length-take}
use Rattle.std.proofs.lemmas.Bool.{cases_lt}
use Rattle.std.proofs.lemmas.List.{get_or-take, take_more}
use Rattle.std.proofs.lemmas.List.Elements.{All-push}
use Rattle.std.proofs.lemmas.Option.{get_or_from_slice_get, slice_get_within}
use Rattle.std.specs.Prelude.{All, slice_get, IsSomeAnd}
use Rattle.tree_checker.specs.FirstReason.{IsFirstWithout}

-- what stands at a place of a list
pub record StandsAt (A : Type 0) (parts : List A) (at : ℕ) (Fact : A → Type 0) : Type 0 where
  pub part : A
  pub stands : slice_get parts at ≡ Some part
  pub fact : Fact part

pub stands-at : (A : Type 0) (parts : List A) (at : ℕ) (Fact : A → Type 0) → IsSomeAnd (slice_get parts at) Fact → StandsAt A parts at Fact
stands-at A [] at Fact is = absurd is
stands-at A (x ∷ parts) zero Fact is = record { part = x; stands = refl; fact = is }
stands-at A (x ∷ parts) (suc at) Fact is = let later = stands-at A parts at Fact is in record { part = later.part; stands = later.stands; fact = later.fact }

pub and-at : (A : Type 0) (parts : List A) (at : ℕ) (part : A) (Fact : A → Type 0) → slice_get parts at ≡ Some part → Fact part → IsSomeAnd (slice_get parts at) Fact
and-at A parts at part Fact stands fact = rw stands fact

pub some-at : (A : Type 0) (parts : List A) (at : ℕ) → at < length parts → StandsAt A parts at (λ _. Unit {0})
some-at A [] at less = absurd (omega arith)
some-at A (x ∷ parts) zero less = record { part = x; stands = refl; fact = tt }
some-at A (x ∷ parts) (suc at) less = let later = some-at A parts at (omega arith) in record { part = later.part; stands = later.stands; fact = tt }

pub at-place : (A : Type 0) (Fact : A → Type 0) (parts : List A) (at : ℕ) (part : A) → All Fact parts → slice_get parts at ≡ Some part → Fact part
at-place A Fact parts at part all stands = subst Fact (get_or_from_slice_get parts at part part stands) (all at part (slice_get_within parts at part stands))

pub before-place : (A : Type 0) (Fact : A → Type 0) (parts : List A) (at n : ℕ) (part : A) → at < n → All Fact (take n parts) → slice_get parts at ≡ Some part → Fact part
before-place A Fact parts at n part less all stands =
    let within = slice_get_within parts at part stands in
    subst Fact (get_or-take n parts at part less ∙ get_or_from_slice_get parts at part part stands) (all at part (omega (arith, within, less, length-take n parts)))

pub first-not_all : (A : Type 0) (Fact : A → Type 0) (parts : List A) (at : ℕ) → IsSomeAnd (slice_get parts at) (λ part. Fact part → ⊥) → All Fact parts → ⊥
first-not_all A Fact parts at fails all =
    let here = stands-at A parts at (λ part. Fact part → ⊥) fails in
    here.fact (at-place A Fact parts at here.part all here.stands)

not-before : (A : Type 0) (Fact : A → Type 0) (parts : List A) (at n : ℕ) → IsSomeAnd (slice_get parts at) (λ part. Fact part → ⊥) → All Fact (take n parts) → at < n → ⊥
not-before A Fact parts at n fails all less =
    let here = stands-at A parts at (λ part. Fact part → ⊥) fails in
    here.fact (before-place A Fact parts at n here.part less all here.stands)

pub one-first : (A : Type 0) (Fact : A → Type 0) (parts : List A) (a b : ℕ) → IsFirstWithout A Fact parts a → IsFirstWithout A Fact parts b → a ≡ b
one-first A Fact parts a b one other = ⊎_elim
    (λ less. absurd (not-before A Fact parts a b one.fails other.before less))
    (λ least. ⊎_elim
    (λ less. absurd (not-before A Fact parts b a other.fails one.before less))
    (λ most. omega (arith, least, most))
    (cases_lt b a))
    (cases_lt a b)

-- one part more
pub All-more : (A : Type 0) (Fact : A → Type 0) (parts : List A) (at : ℕ) (part : A) → slice_get parts at ≡ Some part → All Fact (take at parts) → Fact part → All Fact (take (at + 1) parts)
All-more A Fact parts at part stands all fact =
    let within = slice_get_within parts at part stands in
    subst (All Fact) (sym (take_more parts at part within ∙ rw (get_or_from_slice_get parts at part part stands) refl)) (All-push Fact (take at parts) part all fact)
