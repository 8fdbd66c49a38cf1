-- numbers in a list with one number more
use Rattle.std.proofs.Common.{◌≡◌, ⊎_elim, ℕ, ◌+◌, ◌<◌, List, [], ◌∷◌, ◌++◌, length, refl, ap, sym, ◌∙◌, arith}
use Rattle.std.proofs.lemmas.Bool.{cases_eq}
use Rattle.std.proofs.lemmas.List.{get_or_append_left, length_push}
use Rattle.assignment.specs.Tables.{number_at, Lacks, AreApart}

pub number-before : (numbers : List ℕ) (last place : ℕ) → place < length numbers → number_at (numbers ++ last ∷ []) place ≡ number_at numbers place
number-before numbers last place below = get_or_append_left numbers (last ∷ []) 0 place below

pub number-last : (numbers : List ℕ) (last : ℕ) → number_at (numbers ++ last ∷ []) (length numbers) ≡ last
number-last [] last = refl
number-last (first ∷ numbers) last = number-last numbers last

pub apart-push : (numbers : List ℕ) (last : ℕ) → AreApart numbers → Lacks numbers last → AreApart (numbers ++ last ∷ [])
apart-push numbers last apart lacks one two below_one below_two is = ⊎_elim
    (λ (same : one ≡ length numbers). ⊎_elim
    (λ (too : two ≡ length numbers). same ∙ sym too)
    (λ (other : two ≡ length numbers → ⊥). absurd (lacks two (omega (arith, below_two, longer, other))
    (sym (number-before numbers last two (omega (arith, below_two, longer, other))) ∙ sym is ∙ ap (number_at (numbers ++ last ∷ [])) same ∙ number-last numbers last)))
    (cases_eq two (length numbers)))
    (λ (other_one : one ≡ length numbers → ⊥). ⊎_elim
    (λ (too : two ≡ length numbers). absurd (lacks one (omega (arith, below_one, longer, other_one))
    (sym (number-before numbers last one (omega (arith, below_one, longer, other_one))) ∙ is ∙ ap (number_at (numbers ++ last ∷ [])) too ∙ number-last numbers last)))
    (λ (other : two ≡ length numbers → ⊥). apart one two (omega (arith, below_one, longer, other_one)) (omega (arith, below_two, longer, other))
    (sym (number-before numbers last one (omega (arith, below_one, longer, other_one))) ∙ is ∙ number-before numbers last two (omega (arith, below_two, longer, other))))
    (cases_eq two (length numbers)))
    (cases_eq one (length numbers))
  where
    longer : length (numbers ++ last ∷ []) ≡ length numbers + 1
    longer = length_push numbers last
