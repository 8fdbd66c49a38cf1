-- no certificate of trees is without both: it is good, or there is a reason against it
use Rattle.std.proofs.Common.{◌≡◌, ◌≢◌, ◌⊎◌, ⊎_elim, inl, inr, ℕ, suc, ◌-◌, ◌≤◌, true, false, List, [], ◌∷◌, ◌++◌, length, refl, sym, ◌∙◌, arith}
use Rattle.std.proofs.lemmas.Bool.{cases_Bool, false≢true}
use Rattle.std.proofs.lemmas.List.Elements.{All-nil, All-cons}
use Rattle.std.specs.Prelude.{All, IfSome}
use Rattle.std.specs.List.{list_any}
use Rattle.hold_limits.specs.Placement.{IsAdmissible}
use Rattle.hold_limits.specs.Problem.{Problem}
use Rattle.price_trees.specs.Prices.{Choice, Prices}
use Rattle.price_trees.specs.Narrowing.{Ticks, is_empty}
use Rattle.certificate.specs.Evidence.{claimed}
use Rattle.tree_certificate.specs.declared.parts.Operation.{Operation}
use Rattle.tree_certificate.specs.Listed.{ListedTrees}
use Rattle.choice_prices.specs.Listing.{IsClique, ArePriced}
use Rattle.hold_choices.proofs.NarrowedLemmas.{narrowed-some}
use Rattle.tree_checker.specs.TreeReading.{IsOpen, IsClosed, left_after, Outcome, Left, Stopped, Reading, Done, Closed, Missing, Wrong, Right}
use Rattle.tree_checker.specs.GoodTrees.{Tree, TreeHolds, to_refute, Neighbour, begun, AreNeeded, trees, prices_in, IsGoodTrees}
use Rattle.tree_checker.specs.GoodTrees as needed
use Rattle.tree_checker.specs.FirstReason.{IsFirstWithout, OperationFails, DifferAt, IsRejected}
use Rattle.tree_checker.specs.FirstReason as differ
use Rattle.tree_checker.specs.declared.rejection.TreeRejection.{TreeRejection}
use Rattle.tree_checker.specs.declared.rejection.TreeRejection.TheVariants.{NotAPlacement, NotAClique, WrongPrices, WrongOperation, WrongSibling, NoMemory}
use Rattle.tree_checker.proofs.FirstPlaces.{stands-at, and-at}

-- Parts -----------------------------------------------------------------------------------------

closed-or-open : (t : Problem) (choice : Choice) → IsClosed t choice ⊎ IsOpen t choice
closed-or-open t choice =
    let some = narrowed-some t choice in
    ⊎_elim
    (λ (empty : list_any is_empty some.0 ≡ true). inl (record { left = some.0; narrowed = some.1; empty = empty }))
    (λ (full : list_any is_empty some.0 ≡ false). inr (some.0, record { narrowed = some.1; full = λ empty. false≢true (sym full ∙ empty) }))
    (cases_Bool (list_any is_empty some.0))

first-some : (A : Type 0) (Fact : A → Type 0) (parts : List A) → (All Fact parts → ⊥) → ((at : ℕ) → IsFirstWithout A Fact parts at → ⊥) → ⊥
first-some A Fact [] not none = not (All-nil Fact)
first-some A Fact (x ∷ parts) not none = none 0 record {
  before = All-nil Fact;
  fails = λ fact. first-some A Fact parts (λ all. not (All-cons Fact x parts fact all))
      (λ at first. none (suc at) record { before = All-cons Fact x _ fact first.before; fails = first.fails });
}

-- Operations ------------------------------------------------------------------------------------

some-outcome : (t : Problem) (ticks : Ticks) (prices : List Prices) (operations : List Operation) (choices : List Choice)
    → ((outcome : Outcome) → Reading t ticks prices choices operations outcome → ⊥) → ⊥
some-outcome t ticks prices operations [] none = none (Left operations) Done
some-outcome t ticks prices [] (choice ∷ choices) none = ⊎_elim
    (λ (closed : IsClosed t choice). some-outcome t ticks prices [] choices (λ outcome reading. none outcome (Closed closed reading)))
    (λ (opens : IsOpen t choice). none (Stopped []) (Missing opens.0 opens.1))
    (closed-or-open t choice)
some-outcome t ticks prices (operation ∷ operations) (choice ∷ choices) none = ⊎_elim
    (λ (closed : IsClosed t choice). some-outcome t ticks prices (operation ∷ operations) choices (λ outcome reading. none outcome (Closed closed reading)))
    (λ (opens : IsOpen t choice). none (Stopped (operation ∷ operations)) (Wrong opens.0 opens.1
    (λ holds. some-outcome t ticks prices operations (left_after t ticks prices opens.0 operation ++ choices)
    (λ outcome reading. none outcome (Right opens.0 opens.1 holds reading)))))
    (closed-or-open t choice)

abbrev rest_of : Outcome → List Operation
rest_of (Left rest) = rest
rest_of (Stopped rest) = rest

rest-short : (t : Problem) (ticks : Ticks) (prices : List Prices) (choices : List Choice) (operations : List Operation) (outcome : Outcome)
    → Reading t ticks prices choices operations outcome → length (rest_of outcome) ≤ length operations
rest-short t ticks prices [] operations _ Done = let same : length (rest_of (Left operations)) ≡ length operations = refl in omega (arith, same)
rest-short t ticks prices (choice ∷ choices) operations outcome (Closed closed rest) = rest-short t ticks prices choices operations outcome rest
rest-short t ticks prices (choice ∷ choices) [] _ (Missing left opens) = omega arith
rest-short t ticks prices (choice ∷ choices) (operation ∷ operations) _ (Wrong left opens wrong) =
    let same : length (rest_of (Stopped (operation ∷ operations))) ≡ length (operation ∷ operations) = refl in omega (arith, same)
rest-short t ticks prices (choice ∷ choices) (operation ∷ operations) outcome (Right left opens holds rest) =
    let short = rest-short t ticks prices (left_after t ticks prices left operation ++ choices) operations outcome rest in
    omega (arith, short)

-- a tree that does not hold fails at a place
some-place : (t : Problem) (prices : List Prices) (tree : Tree) → (TreeHolds t prices tree → ⊥) → ((at : ℕ) → OperationFails t prices tree at → ⊥) → ⊥
some-place t prices tree not none = some-outcome t tree.ticks prices tree.operations (to_refute tree.ticks tree.choice) fails
  where
    fails : (outcome : Outcome) → Reading t tree.ticks prices (to_refute tree.ticks tree.choice) tree.operations outcome → ⊥
    fails (Left []) reading = not reading
    fails (Left (operation ∷ rest)) reading =
        let short : length (operation ∷ rest) ≤ length tree.operations = rest-short t tree.ticks prices (to_refute tree.ticks tree.choice) tree.operations (Left (operation ∷ rest)) reading in
        none (length tree.operations - length (operation ∷ rest)) record { rest = operation ∷ rest; stops = inr (reading, λ same. cc); place = omega (arith, short) }
    fails (Stopped rest) reading =
        let short : length rest ≤ length tree.operations = rest-short t tree.ticks prices (to_refute tree.ticks tree.choice) tree.operations (Stopped rest) reading in
        none (length tree.operations - length rest) record { rest = rest; stops = inl reading; place = omega (arith, short) }

-- Siblings --------------------------------------------------------------------------------------

some-difference : (t : Problem) (path : List ℕ) (all listed : List Neighbour) → (AreNeeded t path all listed → ⊥) → ((at : ℕ) → DifferAt t path all listed at → ⊥) → ⊥
some-difference t path [] [] not none = not needed.End
some-difference t path [] (m ∷ listed) not none = none 0 differ.TooMany
some-difference t path (n ∷ all) [] not none = ⊎_elim
    (λ (closed : IsClosed t (begun t path n)). some-difference t path all [] (λ rest. not (needed.Idle closed rest)) (λ at rest. none at (differ.Idle closed rest)))
    (λ (opens : IsOpen t (begun t path n)). none 0 (differ.Missing opens))
    (closed-or-open t (begun t path n))
some-difference t path (n ∷ all) (m ∷ listed) not none = ⊎_elim
    (λ (closed : IsClosed t (begun t path n)). some-difference t path all (m ∷ listed) (λ rest. not (needed.Idle closed rest)) (λ at rest. none at (differ.Idle closed rest)))
    (λ (opens : IsOpen t (begun t path n)). none 0 (differ.Other opens
    (λ same. some-difference t path all listed (λ rest. not (needed.Needed opens same rest)) (λ at rest. none (suc at) (differ.Needed opens same rest)))))
    (closed-or-open t (begun t path n))

-- The whole -------------------------------------------------------------------------------------

pub some-reason : (t : Problem) (c : ListedTrees) → (IsGoodTrees t c → ⊥) → ((rejection : TreeRejection) → IsRejected t c rejection → rejection ≡ NoMemory) → ⊥
some-reason t c not only = at-claim (λ claim.
    first-some _ (IsClique t) c.cliques (λ cliques.
    first-some _ (ArePriced t.hold (length c.cliques)) c.prices (λ priced.
    first-some Tree (TreeHolds t (prices_in t c)) (trees t c) (λ hold.
    some-difference t _ _ _ (λ siblings. not record { admissible = claim; cliques = cliques; priced = priced; refuted = hold; siblings = siblings })
    (λ at differ. known (WrongSibling at) (((((claim, cliques), priced), hold), differ)) (λ same. cc)))
    (λ number first.
    let here = stands-at Tree (trees t c) number (λ tree. TreeHolds t (prices_in t c) tree → ⊥) first.fails in
    some-place t (prices_in t c) here.part here.fact
    (λ at fails. known (WrongOperation number at) (((claim, cliques), priced), record { before = first.before; fails = and-at Tree (trees t c) number here.part _ here.stands fails }) (λ same. cc))))
    (λ at first. known (WrongPrices at) ((claim, cliques), first) (λ same. cc)))
    (λ at first. known (NotAClique at) (claim, first) (λ same. cc)))
  where
    known : (rejection : TreeRejection) → IsRejected t c rejection → rejection ≢ NoMemory → ⊥
    known rejection rejected other = other (only rejection rejected)

    at-claim : (IfSome (claimed c.claim) (IsAdmissible t) → ⊥) → ⊥
    at-claim wrong = known NotAPlacement wrong (λ same. cc)
