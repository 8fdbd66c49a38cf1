-- one refutation of a choice is written as some operations
use Rattle.std.proofs.Common.{◌≡◌, ℕ, not, List, [], ◌++◌, refl, ap, ap₂, sym, ◌∙◌, subst}
use Rattle.std.proofs.lemmas.List.{append_assoc}
use Rattle.hold_limits.specs.Problem.{Problem}
use Rattle.position_set.specs.declared.set.PositionSet.{PositionSet}
use Rattle.position_set.specs.Sets.{has}
use Rattle.price_trees.specs.Prices.{Choice, Prices}
use Rattle.price_trees.specs.Narrowing.{Ticks, trimmed, cut}
use Rattle.tree_certificate.specs.declared.parts.Operation.{Operation}
use Rattle.tree_checker.specs.TreeReading.{IsOpenAs, IsClosed}
use Rattle.hold_choices.proofs.NarrowedLemmas.{narrowed-empty, narrowed-full}
use Rattle.tree_laws.specs.Refutations.{Refutation, NoPosition, Leaf, Residue, Beyond, Narrow, Split, IsBeyond, Refutes, written}
use Rattle.tree_laws.proofs.RefutationLemmas.{listed}

open-not_closed : (t : Problem) (choice left : Choice) → IsOpenAs t choice left → IsClosed t choice → ⊥
open-not_closed t choice left opens closed = opens.full (narrowed-empty t choice closed.left left closed.narrowed opens.narrowed closed.empty)

one-left : (t : Problem) (choice one other : Choice) → IsOpenAs t choice one → IsOpenAs t choice other → other ≡ one
one-left t choice one other opens also = sym (narrowed-full t choice one other opens.narrowed also.narrowed opens.full)

-- prices that are beyond the ticks narrow nothing
not-both : (t : Problem) (ticks : Ticks) (prices : List Prices) (choice : Choice) (place : ℕ) (below : Refutation)
    → Refutes t ticks prices (Beyond place) choice → Refutes t ticks prices (Narrow place below) choice → ⊥
not-both t ticks prices choice place below is also =
    let past = listed prices place (IsBeyond t ticks is.left) is.fact in
    let within = listed prices place (λ v. (IsBeyond t ticks also.left v → ⊥) × Refutes t ticks prices below (trimmed t ticks v also.left)) also.fact in
    let same : past.v ≡ within.v = cc (past.stands, within.stands) in
    within.fact.0 (subst (λ v. IsBeyond t ticks also.left v) same (subst (λ c. IsBeyond t ticks c past.v) (one-left t choice also.left is.left also.opens is.opens) past.fact))

-- what prices leave of a choice is one choice
below-same : (t : Problem) (ticks : Ticks) (prices : List Prices) (choice : Choice) (place : ℕ) (one other : Refutation) (is : Refutes t ticks prices (Narrow place one) choice)
    → Refutes t ticks prices (Narrow place other) choice → (c : Choice) × Refutes t ticks prices one c × Refutes t ticks prices other c
below-same t ticks prices choice place one other is also =
    let first = listed prices place (λ v. (IsBeyond t ticks is.left v → ⊥) × Refutes t ticks prices one (trimmed t ticks v is.left)) is.fact in
    let second = listed prices place (λ v. (IsBeyond t ticks also.left v → ⊥) × Refutes t ticks prices other (trimmed t ticks v also.left)) also.fact in
    let same : second.v ≡ first.v = cc (first.stands, second.stands) in (
      trimmed t ticks first.v is.left,
      first.fact.1,
      subst (Refutes t ticks prices other) (ap₂ (trimmed t ticks) same (one-left t choice is.left also.left is.opens also.opens)) second.fact.1,
    )

-- both halves of a choice are one choice each
record Halves (t : Problem) (ticks : Ticks) (prices : List Prices) (kept dropped kept' dropped' : Refutation) : Type 0 where
  first : Choice
  second : Choice
  keeps : Refutes t ticks prices kept first
  drops : Refutes t ticks prices dropped second
  keeps' : Refutes t ticks prices kept' first
  drops' : Refutes t ticks prices dropped' second

halves : (t : Problem) (ticks : Ticks) (prices : List Prices) (choice : Choice) (i : ℕ) (names : PositionSet) (kept dropped kept' dropped' : Refutation)
    → Refutes t ticks prices (Split i names kept dropped) choice → Refutes t ticks prices (Split i names kept' dropped') choice → Halves t ticks prices kept dropped kept' dropped'
halves t ticks prices choice i names kept dropped kept' dropped' is also =
    let same = one-left t choice is.left also.left is.opens also.opens in
    record {
      first = cut (has names) i is.left;
      second = cut (λ p. not (has names p)) i is.left;
      keeps = is.fact.0;
      drops = is.fact.1;
      keeps' = subst (λ left. Refutes t ticks prices kept' (cut (has names) i left)) same also.fact.0;
      drops' = subst (λ left. Refutes t ticks prices dropped' (cut (λ p. not (has names p)) i left)) same also.fact.1;
    }

regrouped : (a b xs c d ys : List Operation) → (a ++ b) ++ xs ≡ (c ++ d) ++ ys → a ++ (b ++ xs) ≡ c ++ (d ++ ys)
regrouped a b xs c d ys same = sym (append_assoc a b xs) ∙ same ∙ append_assoc c d ys

one-of : (t : Problem) (ticks : Ticks) (prices : List Prices) (one other : Refutation) (choice : Choice) (xs ys : List Operation) → Refutes t ticks prices one choice → Refutes t ticks prices other choice
    → written one ++ xs ≡ written other ++ ys → (one ≡ other) × (xs ≡ ys)
one-of t ticks prices NoPosition NoPosition choice xs ys closed also same = (refl, same)
one-of t ticks prices NoPosition other choice xs ys closed also same = absurd (open-not_closed t choice also.left also.opens closed)
one-of t ticks prices (Leaf place) NoPosition choice xs ys is closed same = absurd (open-not_closed t choice is.left is.opens closed)
one-of t ticks prices (Leaf place) (Leaf place') choice xs ys is also same = (cc, cc)
one-of t ticks prices (Leaf place) other choice xs ys is also same = absurd (cc)
one-of t ticks prices Residue NoPosition choice xs ys is closed same = absurd (open-not_closed t choice is.left is.opens closed)
one-of t ticks prices Residue Residue choice xs ys is also same = (refl, cc)
one-of t ticks prices Residue other choice xs ys is also same = absurd (cc)
one-of t ticks prices (Beyond place) NoPosition choice xs ys is closed same = absurd (open-not_closed t choice is.left is.opens closed)
one-of t ticks prices (Beyond place) (Beyond place') choice xs ys is also same = (cc, cc)
one-of t ticks prices (Beyond place) (Narrow place' below) choice xs ys is also same =
    let here : place' ≡ place = cc in absurd (not-both t ticks prices choice place below is (subst (λ n. Refutes t ticks prices (Narrow n below) choice) here also))
one-of t ticks prices (Beyond place) other choice xs ys is also same = absurd (cc)
one-of t ticks prices (Narrow place below) NoPosition choice xs ys is closed same = absurd (open-not_closed t choice is.left is.opens closed)
one-of t ticks prices (Narrow place below) (Beyond place') choice xs ys is also same =
    let here : place' ≡ place = cc in absurd (not-both t ticks prices choice place below (subst (λ n. Refutes t ticks prices (Beyond n) choice) here also) is)
one-of t ticks prices (Narrow place below) (Narrow place' below') choice xs ys is also same =
    let here : place' ≡ place = cc in
    let rest : written below ++ xs ≡ written below' ++ ys = cc in
    let both = below-same t ticks prices choice place below below' is (subst (λ n. Refutes t ticks prices (Narrow n below') choice) here also) in
    let more = one-of t ticks prices below below' both.0 xs ys both.1 both.2 rest in
    (ap₂ Narrow (sym here) more.0, more.1)
one-of t ticks prices (Narrow place below) other choice xs ys is also same = absurd (cc)
one-of t ticks prices (Split i names kept dropped) NoPosition choice xs ys is closed same = absurd (open-not_closed t choice is.left is.opens closed)
one-of t ticks prices (Split i names kept dropped) (Split i' names' kept' dropped') choice xs ys is also same =
    let rank : i' ≡ i = cc in
    let set : names' ≡ names = cc in
    let rest : (written kept ++ written dropped) ++ xs ≡ (written kept' ++ written dropped') ++ ys = cc in
    let both = halves t ticks prices choice i names kept dropped kept' dropped' is
    (subst (λ n. Refutes t ticks prices (Split n names kept' dropped') choice) rank (subst (λ s. Refutes t ticks prices (Split i' s kept' dropped') choice) set also)) in
    let first = one-of t ticks prices kept kept' both.first (written dropped ++ xs) (written dropped' ++ ys) both.keeps both.keeps'
    (regrouped (written kept) (written dropped) xs (written kept') (written dropped') ys rest) in
    let second = one-of t ticks prices dropped dropped' both.second xs ys both.drops both.drops' first.1 in
    (all i i' names names' kept kept' dropped dropped' rank set first.0 second.0, second.1)
  where
    all : (i i' : ℕ) (names names' : PositionSet) (kept kept' dropped dropped' : Refutation) → i' ≡ i → names' ≡ names → kept ≡ kept' → dropped ≡ dropped'
        → Split i names kept dropped ≡ Split i' names' kept' dropped'
    all i i' names names' kept kept' dropped dropped' rank set first second = cc
one-of t ticks prices (Split i names kept dropped) other choice xs ys is also same = absurd (cc)

pub one-refutation : (t : Problem) (ticks : Ticks) (prices : List Prices) (choice : Choice) (one other : Refutation) → Refutes t ticks prices one choice → Refutes t ticks prices other choice
    → written one ≡ written other → one ≡ other
one-refutation t ticks prices choice one other is also same = (one-of t ticks prices one other choice [] [] is also (ap (λ ops. ops ++ []) same)).0
