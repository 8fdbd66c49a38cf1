-- a set is tested for being a clique number by number
use Rattle.std.proofs.Common.{◌≡◌, ◌⊎◌, ⊎_elim, ℕ, Bool, true, false, not, ◌&&◌, ◌||◌, ◌==◌, List, [], ◌∷◌, refl, ap, sym, ◌∙◌, arith}
use Rattle.std.proofs.lemmas.Bool.{false≢true, not-false}
use Rattle.std.proofs.lemmas.Bool.Decides.{nat_tests, eqb_tells, Decides-eqb, Decides-or}
use Rattle.std.proofs.lemmas.List.Elements.{All-weaker}
use Rattle.std.specs.Bool.{Decides}
use Rattle.std.specs.Prelude.{All, Option, Some, None, IfNone}
use Rattle.std.specs.List.{list_all}
use Rattle.hold_parts.specs.Limits.{is_listed}
use Rattle.hold_limits.specs.Enumeration.{exclude}
use Rattle.hold_limits.specs.Layout.{Layout}
use Rattle.hold_limits.specs.Placement.{Exclude}
use Rattle.hold_limits.specs.Problem.{Problem}
use Rattle.hold_limits.proofs.EnumerationLemmas.{exclude-Decides}
use Rattle.hold_limits.proofs.FaultLemmas.{position-none}
use Rattle.position_set.specs.declared.set.PositionSet.{PositionSet}
use Rattle.position_set.specs.Sets.{members}
use Rattle.price_trees.specs.Prices.{OneOf, IsOf}
use Rattle.choice_prices.specs.Listing.{IsClique, is_clique, wrong_clique}

-- Tests of all numbers --------------------------------------------------------------------------

and-parts : (a b : Bool) → (a && b) ≡ true → (a ≡ true) × (b ≡ true)
and-parts true b both = (refl, both)
and-parts false b both = absurd (false≢true both)

all-listed : (test : ℕ → Bool) (places : List ℕ) (a : ℕ) → list_all test places ≡ true → is_listed places a ≡ true → test a ≡ true
all-listed test [] a all listed = absurd (false≢true listed)
all-listed test (p ∷ places) a all listed =
    let both = and-parts (test p) (list_all test places) all in
    ⊎_elim
    (λ same. ap test (sym same.1) ∙ both.0)
    (λ other. all-listed test places a both.1 (rw other.0 at listed))
    (eqb_tells p a)

all-from_listed : (test : ℕ → Bool) (places : List ℕ) → ((a : ℕ) → is_listed places a ≡ true → test a ≡ true) → list_all test places ≡ true
all-from_listed test [] each = refl
all-from_listed test (p ∷ places) each = rw (each p (first p)) (all-from_listed test places (λ a listed. each a (later a listed)))
  where
    itself : (q : ℕ) → (q == q) ≡ true
    itself q = grind (arith, nat_tests)

    first : (q : ℕ) → ((q == q) || is_listed places q) ≡ true
    first q = rw (itself q) refl

    or-true : (b : Bool) → (b || true) ≡ true
    or-true true = refl
    or-true false = refl

    later : (a : ℕ) → is_listed places a ≡ true → ((p == a) || is_listed places a) ≡ true
    later a listed = rw listed (or-true (p == a))

-- Cliques ---------------------------------------------------------------------------------------

pair-Decides : (hold : Layout) (a b : ℕ) → Decides ((a == b) || exclude hold a b) ((a ≡ b) ⊎ Exclude hold a b)
pair-Decides hold a b = Decides-or _ _ (Decides-eqb a b) (exclude-Decides hold a b)

pub clique-Decides : (t : Problem) (places : List ℕ) → Decides (is_clique t.hold places) (IsOf t (OneOf places))
clique-Decides t places = (
  λ is a b listed_a listed_b. (pair-Decides t.hold a b).0 (all-listed (λ b. (a == b) || exclude t.hold a b) places b (all-listed (λ a. list_all (λ b. (a == b) || exclude t.hold a b) places) places a is listed_a) listed_b),
  λ clique. all-from_listed (λ a. list_all (λ b. (a == b) || exclude t.hold a b) places) places (λ a listed_a. all-from_listed (λ b. (a == b) || exclude t.hold a b) places (λ b listed_b. (pair-Decides t.hold a b).1 (clique a b listed_a listed_b))),
)

cliques-from_none : (t : Problem) (sets : List PositionSet) → wrong_clique t.hold sets ≡ None → All (IsClique t) sets
cliques-from_none t sets none = All-weaker (λ (set : PositionSet). not (is_clique t.hold (members set)) ≡ false) (IsClique t)
    (λ set right. (clique-Decides t (members set)).0 (not-false (is_clique t.hold (members set)) right)) sets
    (position-none (λ (set : PositionSet). not (is_clique t.hold (members set))) sets none)

pub cliques-right : (t : Problem) (sets : List PositionSet) (wrong : Option ℕ) → wrong ≡ wrong_clique t.hold sets → IfNone wrong (All (IsClique t) sets)
cliques-right t sets None is = cliques-from_none t sets (sym is)
cliques-right t sets (Some place) is = tt
