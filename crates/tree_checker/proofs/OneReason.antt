-- a certificate of trees that is rejected is not good, and it is rejected for one reason
use Rattle.std.proofs.Common.{◌≡◌, ◌≢◌, ⊎_elim, ℕ, List, [], length, Option, None, Some, refl, sym, ap, ap₂, ◌∙◌, subst, arith}
use Rattle.std.proofs.lemmas.Option.{same_Some}
use Rattle.std.specs.Prelude.{slice_get, IsSomeAnd}
use Rattle.hold_limits.specs.Problem.{Problem}
use Rattle.price_trees.specs.Prices.{Prices}
use Rattle.tree_certificate.specs.declared.parts.Operation.{Operation}
use Rattle.tree_certificate.specs.Listed.{ListedTrees}
use Rattle.choice_prices.specs.Listing.{IsClique, ArePriced}
use Rattle.tree_checker.specs.TreeReading.{Outcome, Left, Stopped}
use Rattle.tree_checker.specs.GoodTrees.{Tree, TreeReading, TreeHolds, trees, prices_in, IsGoodTrees, to_refute}
use Rattle.tree_checker.specs.FirstReason.{IsFirstWithout, OperationFails, TreeFails, CliquesHold, PricesHold, TreesHold, IsRejected}
use Rattle.tree_checker.specs.declared.rejection.TreeRejection.{TreeRejection}
use Rattle.tree_checker.specs.declared.rejection.TreeRejection.TheVariants.{NotAPlacement, NotAClique, WrongPrices, WrongOperation, WrongSibling, NoMemory}
use Rattle.tree_checker.proofs.FirstPlaces.{stands-at, first-not_all, one-first}
use Rattle.tree_checker.proofs.Readings.{one-outcome}
use Rattle.tree_checker.proofs.Neighbours.{needed-not_differ, one-difference}

-- Trees -----------------------------------------------------------------------------------------

one-end : (t : Problem) (prices : List Prices) (tree : Tree) (a b : Outcome) → TreeReading t prices tree a → TreeReading t prices tree b → a ≡ b
one-end t prices tree a b one other = one-outcome t tree.ticks prices (to_refute tree.ticks tree.choice) tree.operations a b one other

left-same : (a b : List Operation) → Left a ≡ Left b → a ≡ b
left-same a b same = cc

stopped-same : (a b : List Operation) → Stopped a ≡ Stopped b → a ≡ b
stopped-same a b same = cc

never-left : (a b : List Operation) → Stopped a ≡ Left b → ⊥
never-left a b same = cc

fails-not_holds : (t : Problem) (prices : List Prices) (tree : Tree) (at : ℕ) → OperationFails t prices tree at → TreeHolds t prices tree → ⊥
fails-not_holds t prices tree at fails holds = ⊎_elim
    (λ stopped. never-left fails.rest [] (one-end t prices tree (Stopped fails.rest) (Left []) stopped holds))
    (λ left. left.1 (left-same fails.rest [] (one-end t prices tree (Left fails.rest) (Left []) left.0 holds)))
    fails.stops

one-rest : (t : Problem) (prices : List Prices) (tree : Tree) (a b : ℕ) → (one : OperationFails t prices tree a) → (other : OperationFails t prices tree b) → one.rest ≡ other.rest
one-rest t prices tree a b one other = ⊎_elim
    (λ stopped. ⊎_elim
    (λ also. stopped-same _ _ (one-end t prices tree (Stopped one.rest) (Stopped other.rest) stopped also))
    (λ left. absurd (never-left one.rest other.rest (one-end t prices tree (Stopped one.rest) (Left other.rest) stopped left.0)))
    other.stops)
    (λ left. ⊎_elim
    (λ stopped. absurd (never-left other.rest one.rest (one-end t prices tree (Stopped other.rest) (Left one.rest) stopped left.0)))
    (λ also. left-same _ _ (one-end t prices tree (Left one.rest) (Left other.rest) left.0 also.0))
    other.stops)
    one.stops

one-place : (t : Problem) (prices : List Prices) (tree : Tree) (a b : ℕ) → OperationFails t prices tree a → OperationFails t prices tree b → a ≡ b
one-place t prices tree a b one other = omega (arith, one.place, other.place, ap length (one-rest t prices tree a b one other))

first-tree : (t : Problem) (prices : List Prices) (trees : List Tree) (number at : ℕ) → TreeFails t prices trees number at → IsFirstWithout Tree (TreeHolds t prices) trees number
first-tree t prices trees number at fails = record { before = fails.before; fails = weaker (slice_get trees number) fails.fails }
  where
    weaker : (tree : Option Tree) → IsSomeAnd tree (λ tree. OperationFails t prices tree at) → IsSomeAnd tree (λ tree. TreeHolds t prices tree → ⊥)
    weaker None is = is
    weaker (Some tree) is = fails-not_holds t prices tree at is

one-tree : (t : Problem) (prices : List Prices) (trees : List Tree) (number at other place : ℕ) → TreeFails t prices trees number at → TreeFails t prices trees other place
    → (number ≡ other) × (at ≡ place)
one-tree t prices trees number at other place one two = (same, places)
  where
    same : number ≡ other
    same = one-first Tree (TreeHolds t prices) trees number other (first-tree t prices trees number at one) (first-tree t prices trees other place two)

    places : at ≡ place
    places =
        let here = stands-at Tree trees number (λ tree. OperationFails t prices tree at) one.fails in
        let there = stands-at Tree trees other (λ tree. OperationFails t prices tree place) two.fails in
        let tree : here.part ≡ there.part = same_Some here.part there.part (sym here.stands ∙ ap (slice_get trees) same ∙ there.stands) in
        one-place t prices there.part at place (subst (λ x. OperationFails t prices x at) tree here.fact) there.fact

-- Reasons ---------------------------------------------------------------------------------------

pub rejected-not_good : (t : Problem) (c : ListedTrees) (rejection : TreeRejection) → IsRejected t c rejection → rejection ≢ NoMemory → IsGoodTrees t c → ⊥
rejected-not_good t c NotAPlacement rejected known good = rejected good.admissible
rejected-not_good t c (NotAClique at) rejected known good = first-not_all _ (IsClique t) c.cliques at rejected.1.fails good.cliques
rejected-not_good t c (WrongPrices at) rejected known good = first-not_all _ (ArePriced t.hold (length c.cliques)) c.prices at rejected.1.fails good.priced
rejected-not_good t c (WrongOperation number at) rejected known good =
    first-not_all Tree (TreeHolds t (prices_in t c)) (trees t c) number (first-tree t (prices_in t c) (trees t c) number at rejected.1).fails good.refuted
rejected-not_good t c (WrongSibling at) rejected known good = needed-not_differ t _ _ _ at good.siblings rejected.1
rejected-not_good t c NoMemory rejected known good = known refl

-- a reason that needs what an earlier one denies
clique-denies : (t : Problem) (c : ListedTrees) (at : ℕ) → IsRejected t c (NotAClique at) → CliquesHold t c → ⊥
clique-denies t c at rejected hold = first-not_all _ (IsClique t) c.cliques at rejected.1.fails hold.1

prices-deny : (t : Problem) (c : ListedTrees) (at : ℕ) → IsRejected t c (WrongPrices at) → PricesHold t c → ⊥
prices-deny t c at rejected hold = first-not_all _ (ArePriced t.hold (length c.cliques)) c.prices at rejected.1.fails hold.1

tree-denies : (t : Problem) (c : ListedTrees) (number at : ℕ) → IsRejected t c (WrongOperation number at) → TreesHold t c → ⊥
tree-denies t c number at rejected hold = first-not_all Tree (TreeHolds t (prices_in t c)) (trees t c) number (first-tree t (prices_in t c) (trees t c) number at rejected.1).fails hold.1

pub one-reason : (t : Problem) (c : ListedTrees) (a b : TreeRejection) → IsRejected t c a → IsRejected t c b → a ≢ NoMemory → b ≢ NoMemory → a ≡ b
one-reason t c NoMemory b one other known also = absurd (known refl)
one-reason t c NotAPlacement NoMemory one other known also = absurd (also refl)
one-reason t c NotAPlacement NotAPlacement one other known also = refl
one-reason t c NotAPlacement (NotAClique at) one other known also = absurd (one other.0)
one-reason t c NotAPlacement (WrongPrices at) one other known also = absurd (one other.0.0)
one-reason t c NotAPlacement (WrongOperation number at) one other known also = absurd (one other.0.0.0)
one-reason t c NotAPlacement (WrongSibling at) one other known also = absurd (one other.0.0.0.0)
one-reason t c (NotAClique at) NoMemory one other known also = absurd (also refl)
one-reason t c (NotAClique at) NotAPlacement one other known also = absurd (other one.0)
one-reason t c (NotAClique at) (NotAClique place) one other known also = ap (λ k. NotAClique k) (one-first _ (IsClique t) c.cliques at place one.1 other.1)
one-reason t c (NotAClique at) (WrongPrices place) one other known also = absurd (clique-denies t c at one other.0)
one-reason t c (NotAClique at) (WrongOperation number place) one other known also = absurd (clique-denies t c at one other.0.0)
one-reason t c (NotAClique at) (WrongSibling place) one other known also = absurd (clique-denies t c at one other.0.0.0)
one-reason t c (WrongPrices at) NoMemory one other known also = absurd (also refl)
one-reason t c (WrongPrices at) NotAPlacement one other known also = absurd (other one.0.0)
one-reason t c (WrongPrices at) (NotAClique place) one other known also = absurd (clique-denies t c place other one.0)
one-reason t c (WrongPrices at) (WrongPrices place) one other known also =
    ap (λ k. WrongPrices k) (one-first _ (ArePriced t.hold (length c.cliques)) c.prices at place one.1 other.1)
one-reason t c (WrongPrices at) (WrongOperation number place) one other known also = absurd (prices-deny t c at one other.0)
one-reason t c (WrongPrices at) (WrongSibling place) one other known also = absurd (prices-deny t c at one other.0.0)
one-reason t c (WrongOperation number at) NoMemory one other known also = absurd (also refl)
one-reason t c (WrongOperation number at) NotAPlacement one other known also = absurd (other one.0.0.0)
one-reason t c (WrongOperation number at) (NotAClique place) one other known also = absurd (clique-denies t c place other one.0.0)
one-reason t c (WrongOperation number at) (WrongPrices place) one other known also = absurd (prices-deny t c place other one.0)
one-reason t c (WrongOperation number at) (WrongOperation next place) one other known also =
    let same = one-tree t (prices_in t c) (trees t c) number at next place one.1 other.1 in
    ap₂ (λ n k. WrongOperation n k) same.0 same.1
one-reason t c (WrongOperation number at) (WrongSibling place) one other known also = absurd (tree-denies t c number at one other.0)
one-reason t c (WrongSibling at) NoMemory one other known also = absurd (also refl)
one-reason t c (WrongSibling at) NotAPlacement one other known also = absurd (other one.0.0.0.0)
one-reason t c (WrongSibling at) (NotAClique place) one other known also = absurd (clique-denies t c place other one.0.0.0)
one-reason t c (WrongSibling at) (WrongPrices place) one other known also = absurd (prices-deny t c place other one.0.0)
one-reason t c (WrongSibling at) (WrongOperation number place) one other known also = absurd (tree-denies t c number place other one.0)
one-reason t c (WrongSibling at) (WrongSibling place) one other known also = ap (λ k. WrongSibling k) (one-difference t _ _ _ at place one.1 other.1)
