-- the steps of a walk over operations
use Rattle.std.proofs.Common.{◌≡◌, ℕ, ◌+◌, ◌<◌, ◌≤◌, List, [], ◌∷◌, ◌++◌, length, drop, reverse, get_or, Some, ap, ◌∙◌, arith}
use Rattle.std.proofs.lemmas.List.{reverse-append, drop_more, drop_all}
use Rattle.std.proofs.lemmas.List.Elements.{All-pop}
use Rattle.std.specs.Prelude.{All}
use Rattle.hold_limits.specs.Problem.{Problem}
use Rattle.price_trees.specs.Prices.{Choice, Prices}
use Rattle.price_trees.specs.Narrowing.{Ticks}
use Rattle.tree_certificate.specs.declared.parts.Operation.{Operation}
use Rattle.tree_checker.specs.TreeReading.{IsOpenAs, Holds, left_after, Outcome, Left, Stopped, Reading, Done, Missing, Wrong, Right}
use Rattle.tree_checker.specs.Steps.{StandsFor}

-- so many operations are read, and what comes of the pending choices by the others comes of the first choices by all
pub record IsWalked (t : Problem) (ticks : Ticks) (prices : List Prices) (start : List Choice) (operations : List Operation) (pending : List Choice) (at : ℕ) : Type 0 where
  pub within : at ≤ length operations
  pub opens : All (λ c. IsOpenAs t c c) pending
  pub reads : (outcome : Outcome) → Reading t ticks prices (reverse pending) (drop at operations) outcome → Reading t ticks prices start operations outcome

pub reversed : (pending rest : List Choice) (choice : Choice) → pending ≡ rest ++ choice ∷ [] → reverse pending ≡ choice ∷ reverse rest
reversed pending rest choice popped = ap reverse popped ∙ reverse-append rest (choice ∷ [])

top-open : (t : Problem) (pending rest : List Choice) (choice : Choice) → pending ≡ rest ++ choice ∷ [] → All (λ c. IsOpenAs t c c) pending → IsOpenAs t choice choice
top-open t pending rest choice popped all = (All-pop (λ c. IsOpenAs t c c) pending rest (Some choice) popped all).1

pub walk-missing : (t : Problem) (ticks : Ticks) (prices : List Prices) (start : List Choice) (operations : List Operation) (pending rest : List Choice) (choice : Choice) (at : ℕ)
    → IsWalked t ticks prices start operations pending at → pending ≡ rest ++ choice ∷ [] → length operations ≤ at → Reading t ticks prices start operations (Stopped [])
walk-missing t ticks prices start operations pending rest choice at walked popped end = walked.reads (Stopped [])
    (rw (reversed pending rest choice popped, drop_all at operations end) (Missing choice (top-open t pending rest choice popped walked.opens)))

pub walk-wrong : (t : Problem) (ticks : Ticks) (prices : List Prices) (start : List Choice) (operations : List Operation) (pending rest : List Choice) (choice : Choice) (at : ℕ) (d : Operation)
    → IsWalked t ticks prices start operations pending at → pending ≡ rest ++ choice ∷ [] → at < length operations
    → (Holds t ticks prices choice (get_or operations at d) → ⊥) → Reading t ticks prices start operations (Stopped (drop at operations))
walk-wrong t ticks prices start operations pending rest choice at d walked popped within wrong =
    let next = drop_more operations at d within in
    walked.reads (Stopped (drop at operations))
    (rw (reversed pending rest choice popped, next) (Wrong choice (top-open t pending rest choice popped walked.opens) wrong))

pub walk-more : (t : Problem) (ticks : Ticks) (prices : List Prices) (start : List Choice) (operations : List Operation) (pending rest now : List Choice) (choice : Choice) (at : ℕ) (d : Operation)
    → IsWalked t ticks prices start operations pending at → pending ≡ rest ++ choice ∷ [] → at < length operations
    → Holds t ticks prices choice (get_or operations at d) → All (λ c. IsOpenAs t c c) now → StandsFor t ticks prices now (left_after t ticks prices choice (get_or operations at d) ++ reverse rest)
    → IsWalked t ticks prices start operations now (at + 1)
walk-more t ticks prices start operations pending rest now choice at d walked popped within holds opens stands = record {
  within = omega (arith, within);
  opens = opens;
  reads = λ outcome reading. walked.reads outcome
      (rw (reversed pending rest choice popped, next) (Right choice (top-open t pending rest choice popped walked.opens) holds (stands (drop (at + 1) operations) outcome reading)));
}
  where
    next : drop at operations ≡ get_or operations at d ∷ drop (at + 1) operations
    next = drop_more operations at d within

pub walk-done : (t : Problem) (ticks : Ticks) (prices : List Prices) (start : List Choice) (operations : List Operation) (pending : List Choice) (at : ℕ)
    → IsWalked t ticks prices start operations pending at → pending ≡ [] → Reading t ticks prices start operations (Left (drop at operations))
walk-done t ticks prices start operations pending at walked none = walked.reads (Left (drop at operations)) (rw none Done)
