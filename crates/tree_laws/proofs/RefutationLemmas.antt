-- what a walk over operations accepts are refutations that are written down
use Rattle.std.proofs.Common.{◌≡◌, ⊎_elim, ℕ, ◌<◌, ℤ, true, false, not, List, [], ◌∷◌, ◌++◌, length, Option, Some, None, refl, ap, sym, ◌∙◌, subst, arith}
use Rattle.std.proofs.lemmas.Bool.{cases_Bool, false≢true}
use Rattle.std.proofs.lemmas.Int.{ints}
use Rattle.std.proofs.lemmas.List.{append_assoc, append-nil}
use Rattle.std.proofs.lemmas.List.Elements.{All-weaker}
use Rattle.std.proofs.lemmas.Option.{slice_get_within, slice_get_cases, get_or_from_slice_get}
use Rattle.std.specs.Prelude.{◌↔◌, ◌<ℤ◌, ◌≤ℤ◌, int_lt, All, IsTrue, IsSomeAnd, slice_get}
use Rattle.std.specs.List.{AllZip}
use Rattle.hold_limits.specs.Problem.{Problem}
use Rattle.position_set.specs.Sets.{has}
use Rattle.price_trees.specs.Prices.{Choice, Prices, AreOf}
use Rattle.price_trees.specs.Narrowing.{Ticks, trimmed, cut}
use Rattle.price_trees.specs.Trees.{Refuted}
use Rattle.price_trees.specs.Trees as rule
use Rattle.tree_certificate.specs.Listed.{ListedTrees}
use Rattle.tree_certificate.specs.declared.parts.Operation.{Operation}
use Rattle.tree_certificate.specs.declared.parts.Operation.TheVariants as operation
use Rattle.tree_checker.specs.TreeReading.{IsOpenAs, Holds, is_beyond, left_after, left_by_prices, Outcome, Left, Reading, Done, Closed, Missing, Wrong, Right}
use Rattle.tree_checker.specs.GoodTrees.{Tree, TreeHolds, trees, prices_in, IsGoodTrees}
use Rattle.hold_choices.proofs.NarrowedLemmas.{narrowed-refuted}
use Rattle.tree_laws.specs.Refutations.{Refutation, NoPosition, Leaf, Residue, Beyond, Narrow, Split, OfListed, IsBeyond, Refutes, written, HasRefutation, NoTick, By, IsGoodByTrees}

-- Prices ----------------------------------------------------------------------------------------

below-less : (a b : ℤ) → int_lt a b ≡ true → a <ℤ b
below-less a b less = omega (arith, ints, less)

below-true : (a b : ℤ) → a <ℤ b → int_lt a b ≡ true
below-true a b less = ⊎_elim (λ (one : int_lt a b ≡ true). one) (λ (other : int_lt a b ≡ false). absurd (omega (arith, ints, less, other))) (cases_Bool (int_lt a b))

below-false : (a b : ℤ) → (a <ℤ b → ⊥) → int_lt a b ≡ false
below-false a b most = ⊎_elim (λ (one : int_lt a b ≡ true). absurd (most (below-less a b one))) (λ (other : int_lt a b ≡ false). other) (cases_Bool (int_lt a b))

below-most : (a b : ℤ) → int_lt a b ≡ false → b ≤ℤ a
below-most a b most = omega (arith, ints, most)

-- the prices at a place, of which something is true
pub record Listed (prices : List Prices) (place : ℕ) (Fact : Prices → Type 0) : Type 0 where
  pub v : Prices
  pub stands : slice_get prices place ≡ Some v
  pub fact : Fact v

some-listed : (found : Option Prices) (Fact : Prices → Type 0) → IsSomeAnd found Fact → (v : Prices) × (found ≡ Some v) × Fact v
some-listed None Fact is = absurd is
some-listed (Some v) Fact is = (v, refl, is)

pub listed : (prices : List Prices) (place : ℕ) (Fact : Prices → Type 0) → OfListed prices place Fact → Listed prices place Fact
listed prices place Fact is = let here = some-listed (slice_get prices place) Fact is in record { v = here.0; stands = here.1; fact = here.2 }

there : (prices : List Prices) (place : ℕ) → place < length prices → Listed prices place (λ _. Unit {0})
there prices place within = ⊎_elim
    (λ found. record { v = found.0; stands = found.2; fact = tt })
    (λ past. absurd (omega (arith, past.0, within)))
    (slice_get_cases prices place).1

of-listed : (t : Problem) (prices : List Prices) (place : ℕ) (v : Prices) → All (AreOf t) prices → slice_get prices place ≡ Some v → AreOf t v
of-listed t prices place v of stands = subst (AreOf t) (get_or_from_slice_get prices place v v stands) (of place v (slice_get_within prices place v stands))

-- Values are read -------------------------------------------------------------------------------

-- the operations of a refutation are read as a tree over its choice, whatever follows
reads : (t : Problem) (ticks : Ticks) (prices : List Prices) (refutation : Refutation) (choice : Choice) (choices : List Choice) (rest : List Operation) (outcome : Outcome)
    → Refutes t ticks prices refutation choice → Reading t ticks prices choices rest outcome → Reading t ticks prices (choice ∷ choices) (written refutation ++ rest) outcome
reads t ticks prices NoPosition choice choices rest outcome closed more = Closed closed more
reads t ticks prices (Leaf place) choice choices rest outcome is more =
    let here = listed prices place (IsBeyond t ticks is.left) is.fact in
    Right is.left is.opens (rw here.stands (below-true _ _ here.fact)) more
reads t ticks prices Residue choice choices rest outcome is more = Right is.left is.opens is.fact more
reads t ticks prices (Beyond place) choice choices rest outcome is more =
    let here = listed prices place (IsBeyond t ticks is.left) is.fact in
    let past : is_beyond t ticks is.left here.v ≡ true = below-true _ _ here.fact in
    Right is.left is.opens (slice_get_within prices place here.v here.stands) (rw here.stands (rw past more))
reads t ticks prices (Narrow place below) choice choices rest outcome is more =
    let here = listed prices place (λ v. (IsBeyond t ticks is.left v → ⊥) × Refutes t ticks prices below (trimmed t ticks v is.left)) is.fact in
    let within : is_beyond t ticks is.left here.v ≡ false = below-false _ _ here.fact.0 in
    Right is.left is.opens (slice_get_within prices place here.v here.stands)
    (rw here.stands (rw within (reads t ticks prices below (trimmed t ticks here.v is.left) choices rest outcome here.fact.1 more)))
reads t ticks prices (Split i names kept dropped) choice choices rest outcome is more =
    let first = reads t ticks prices kept (cut (has names) i is.left) (cut (λ p. not (has names p)) i is.left ∷ choices) (written dropped ++ rest) outcome is.fact.0
    (reads t ticks prices dropped (cut (λ p. not (has names p)) i is.left) choices rest outcome is.fact.1 more) in
    Right is.left is.opens tt (rw (append_assoc (written kept) (written dropped) rest) first)

-- What is read is a value -----------------------------------------------------------------------

abbrev all_written : List Refutation → List Operation
all_written [] = []
all_written (one ∷ more) = written one ++ all_written more

-- the operations before the rest are refutations of the choices, one after another
record AreRefuted (t : Problem) (ticks : Ticks) (prices : List Prices) (choices : List Choice) (operations rest : List Operation) : Type 0 where
  refutations : List Refutation
  refute : AllZip (Refutes t ticks prices) refutations choices
  all : operations ≡ all_written refutations ++ rest

-- .. and those of the first choice come first
record FirstRefuted (t : Problem) (ticks : Ticks) (prices : List Prices) (choice : Choice) (choices : List Choice) (operations rest : List Operation) : Type 0 where
  refutation : Refutation
  refutes : Refutes t ticks prices refutation choice
  more : List Operation
  others : AreRefuted t ticks prices choices more rest
  all : operations ≡ written refutation ++ more

first-of : (t : Problem) (ticks : Ticks) (prices : List Prices) (choice : Choice) (choices : List Choice) (operations rest : List Operation) (refutations : List Refutation)
    → AllZip (Refutes t ticks prices) refutations (choice ∷ choices) → operations ≡ all_written refutations ++ rest → FirstRefuted t ticks prices choice choices operations rest
first-of t ticks prices choice choices operations rest [] refute all = absurd refute
first-of t ticks prices choice choices operations rest (one ∷ others) refute all = record {
  refutation = one;
  refutes = refute.0;
  more = all_written others ++ rest;
  others = record { refutations = others; refute = refute.1; all = refl };
  all = all ∙ append_assoc (written one) (all_written others) rest;
}

first : (t : Problem) (ticks : Ticks) (prices : List Prices) (choice : Choice) (choices : List Choice) (operations rest : List Operation)
    → AreRefuted t ticks prices (choice ∷ choices) operations rest → FirstRefuted t ticks prices choice choices operations rest
first t ticks prices choice choices operations rest are = first-of t ticks prices choice choices operations rest are.refutations are.refute are.all

joined : (operations more front later rest : List Operation) → operations ≡ front ++ more → more ≡ later ++ rest → operations ≡ (front ++ later) ++ rest
joined operations more front later rest one two = one ∙ ap (λ ops. front ++ ops) two ∙ sym (append_assoc front later rest)

by-prices : (t : Problem) (ticks : Ticks) (prices : List Prices) (choice left : Choice) (place : ℕ) (v : Prices) (choices : List Choice) (operations rest : List Operation)
    → IsOpenAs t choice left → slice_get prices place ≡ Some v → AreRefuted t ticks prices (left_by_prices t ticks left v ++ choices) operations rest
    → AreRefuted t ticks prices (choice ∷ choices) (operation.Narrow place ∷ operations) rest
by-prices t ticks prices choice left place v choices operations rest opens stands are = ⊎_elim
    (λ (past : is_beyond t ticks left v ≡ true).
    let others : AreRefuted t ticks prices choices operations rest = rw past at are in
    record {
      refutations = Beyond place ∷ others.refutations;
      refute = (record { left = left; opens = opens; fact = rw stands (below-less _ _ past) }, others.refute);
      all = ap (λ ops. operation.Narrow place ∷ ops) others.all;
    })
    (λ (within : is_beyond t ticks left v ≡ false).
    let both : AreRefuted t ticks prices (trimmed t ticks v left ∷ choices) operations rest = rw within at are in
    let below = first t ticks prices (trimmed t ticks v left) choices operations rest both in
    record {
      refutations = Narrow place below.refutation ∷ below.others.refutations;
      refute = (record { left = left; opens = opens; fact = rw stands (not-beyond within, below.refutes) }, below.others.refute);
      all = ap (λ ops. operation.Narrow place ∷ ops) (joined operations below.more (written below.refutation) (all_written below.others.refutations) rest below.all below.others.all);
    })
    (cases_Bool (is_beyond t ticks left v))
  where
    not-beyond : is_beyond t ticks left v ≡ false → IsBeyond t ticks left v → ⊥
    not-beyond within past = false≢true (sym within ∙ below-true _ _ past)

-- one operation more
by-operation : (t : Problem) (ticks : Ticks) (prices : List Prices) (choice left : Choice) (choices : List Choice) (next : Operation) (operations rest : List Operation)
    → IsOpenAs t choice left → Holds t ticks prices left next → AreRefuted t ticks prices (left_after t ticks prices left next ++ choices) operations rest
    → AreRefuted t ticks prices (choice ∷ choices) (next ∷ operations) rest
by-operation t ticks prices choice left choices (operation.Leaf place) operations rest opens holds are =
    let here = listed prices place (λ v. IsTrue (is_beyond t ticks left v)) holds in
    record {
      refutations = Leaf place ∷ are.refutations;
      refute = (record { left = left; opens = opens; fact = rw here.stands (below-less _ _ here.fact) }, are.refute);
      all = ap (λ ops. operation.Leaf place ∷ ops) are.all;
    }
by-operation t ticks prices choice left choices operation.Residue operations rest opens holds are = record {
  refutations = Residue ∷ are.refutations;
  refute = (record { left = left; opens = opens; fact = holds }, are.refute);
  all = ap (λ ops. operation.Residue ∷ ops) are.all;
}
by-operation t ticks prices choice left choices (operation.Narrow place) operations rest opens holds are =
    let here = there prices place holds in
    by-prices t ticks prices choice left place here.v choices operations rest opens here.stands (rw here.stands at are)
by-operation t ticks prices choice left choices (operation.Split i names) operations rest opens holds are =
    let dropped_half : Choice = cut (λ p. not (has names p)) i left in
    let kept = first t ticks prices (cut (has names) i left) (dropped_half ∷ choices) operations rest are in
    let dropped = first t ticks prices dropped_half choices kept.more rest kept.others in
    record {
      refutations = Split i names kept.refutation dropped.refutation ∷ dropped.others.refutations;
      refute = (record { left = left; opens = opens; fact = (kept.refutes, dropped.refutes) }, dropped.others.refute);
      all = ap (λ ops. operation.Split i names ∷ ops) (joined operations dropped.more (written kept.refutation ++ written dropped.refutation) (all_written dropped.others.refutations) rest
          (joined operations kept.more (written kept.refutation) (written dropped.refutation) dropped.more kept.all dropped.all) dropped.others.all);
    }

values : (t : Problem) (ticks : Ticks) (prices : List Prices) (choices : List Choice) (operations rest : List Operation) (outcome : Outcome)
    → outcome ≡ Left rest → Reading t ticks prices choices operations outcome → AreRefuted t ticks prices choices operations rest
values t ticks prices [] operations rest _ is Done = record { refutations = []; refute = tt; all = cc }
values t ticks prices (choice ∷ choices) operations rest outcome is (Closed closed more) =
    let others = values t ticks prices choices operations rest outcome is more in
    record { refutations = NoPosition ∷ others.refutations; refute = (closed, others.refute); all = others.all }
values t ticks prices (choice ∷ choices) [] rest _ is (Missing left opens) = absurd (cc)
values t ticks prices (choice ∷ choices) (operation ∷ operations) rest _ is (Wrong left opens wrong) = absurd (cc)
values t ticks prices (choice ∷ choices) (operation ∷ operations) rest outcome is (Right left opens holds more) =
    by-operation t ticks prices choice left choices operation operations rest opens holds
    (values t ticks prices (left_after t ticks prices left operation ++ choices) operations rest outcome is more)

none-written : (t : Problem) (ticks : Ticks) (prices : List Prices) (refutations : List Refutation) → AllZip (Refutes t ticks prices) refutations [] → all_written refutations ++ [] ≡ []
none-written t ticks prices [] refute = refl
none-written t ticks prices (one ∷ more) refute = absurd refute

-- Whole trees -----------------------------------------------------------------------------------

holds-by : (t : Problem) (prices : List Prices) (tree : Tree) → TreeHolds t prices tree → HasRefutation t prices tree
holds-by t prices tree holds = ⊎_elim
    (λ (crossed : int_lt tree.ticks.high tree.ticks.low ≡ true).
    let none : AreRefuted t tree.ticks prices [] tree.operations [] = values t tree.ticks prices [] tree.operations [] (Left []) refl (rw crossed at holds) in
    NoTick (below-less _ _ crossed) (none.all ∙ none-written t tree.ticks prices none.refutations none.refute))
    (λ (some : int_lt tree.ticks.high tree.ticks.low ≡ false).
    let all : AreRefuted t tree.ticks prices (tree.choice ∷ []) tree.operations [] = values t tree.ticks prices (tree.choice ∷ []) tree.operations [] (Left []) refl (rw some at holds) in
    let one = first t tree.ticks prices tree.choice [] tree.operations [] all in
    let last : one.more ≡ [] = one.others.all ∙ none-written t tree.ticks prices one.others.refutations one.others.refute in
    By (below-most _ _ some) one.refutation one.refutes (one.all ∙ ap (λ ops. written one.refutation ++ ops) last ∙ append-nil (written one.refutation)))
    (cases_Bool (int_lt tree.ticks.high tree.ticks.low))

by-holds : (t : Problem) (prices : List Prices) (tree : Tree) → HasRefutation t prices tree → TreeHolds t prices tree
by-holds t prices tree (NoTick crossed none) =
    let is : int_lt tree.ticks.high tree.ticks.low ≡ true = below-true _ _ crossed in
    rw is (subst (λ ops. Reading t tree.ticks prices [] ops (Left [])) (sym none) Done)
by-holds t prices tree (By some refutation refutes is) =
    let ticks_are : int_lt tree.ticks.high tree.ticks.low ≡ false = below-false tree.ticks.high tree.ticks.low (λ (crossed : tree.ticks.high <ℤ tree.ticks.low). omega (arith, ints, some, crossed)) in
    let read : Reading t tree.ticks prices (tree.choice ∷ []) (written refutation ++ []) (Left []) = reads t tree.ticks prices refutation tree.choice [] [] (Left []) refutes Done in
    rw ticks_are (subst (λ ops. Reading t tree.ticks prices (tree.choice ∷ []) ops (Left [])) (append-nil (written refutation) ∙ sym is) read)

pub holds-iff : (t : Problem) (prices : List Prices) (tree : Tree) → TreeHolds t prices tree ↔ HasRefutation t prices tree
holds-iff t prices tree = (holds-by t prices tree, by-holds t prices tree)

-- Certificates ----------------------------------------------------------------------------------

good-by_trees : (t : Problem) (c : ListedTrees) → IsGoodTrees t c → IsGoodByTrees t c
good-by_trees t c good = record {
  admissible = good.admissible;
  cliques = good.cliques;
  priced = good.priced;
  refuted = All-weaker (TreeHolds t (prices_in t c)) (HasRefutation t (prices_in t c)) (holds-by t (prices_in t c)) (trees t c) good.refuted;
  siblings = good.siblings;
}

by_trees-good : (t : Problem) (c : ListedTrees) → IsGoodByTrees t c → IsGoodTrees t c
by_trees-good t c good = record {
  admissible = good.admissible;
  cliques = good.cliques;
  priced = good.priced;
  refuted = All-weaker (HasRefutation t (prices_in t c)) (TreeHolds t (prices_in t c)) (by-holds t (prices_in t c)) (trees t c) good.refuted;
  siblings = good.siblings;
}

pub good-iff : (t : Problem) (c : ListedTrees) → IsGoodTrees t c ↔ IsGoodByTrees t c
good-iff t c = (good-by_trees t c, by_trees-good t c)

-- The rules of trees ----------------------------------------------------------------------------

pub refutation-refutes : (t : Problem) (ticks : Ticks) (prices : List Prices) (refutation : Refutation) (choice : Choice) → All (AreOf t) prices
    → Refutes t ticks prices refutation choice → Refuted t ticks choice
refutation-refutes t ticks prices NoPosition choice of closed = narrowed-refuted t ticks choice closed.left closed.narrowed (rule.Empty closed.empty)
refutation-refutes t ticks prices (Leaf place) choice of is =
    let here = listed prices place (IsBeyond t ticks is.left) is.fact in
    narrowed-refuted t ticks choice is.left is.opens.narrowed (rule.Leaf here.v (of-listed t prices place here.v of here.stands) here.fact)
refutation-refutes t ticks prices Residue choice of is = narrowed-refuted t ticks choice is.left is.opens.narrowed (rule.Residue is.fact)
refutation-refutes t ticks prices (Beyond place) choice of is =
    let here = listed prices place (IsBeyond t ticks is.left) is.fact in
    narrowed-refuted t ticks choice is.left is.opens.narrowed (rule.Leaf here.v (of-listed t prices place here.v of here.stands) here.fact)
refutation-refutes t ticks prices (Narrow place below) choice of is =
    let here = listed prices place (λ v. (IsBeyond t ticks is.left v → ⊥) × Refutes t ticks prices below (trimmed t ticks v is.left)) is.fact in
    narrowed-refuted t ticks choice is.left is.opens.narrowed
    (rule.Trim here.v (of-listed t prices place here.v of here.stands) (refutation-refutes t ticks prices below (trimmed t ticks here.v is.left) of here.fact.1))
refutation-refutes t ticks prices (Split i names kept dropped) choice of is = narrowed-refuted t ticks choice is.left is.opens.narrowed
    (rule.Split i (has names)
    (refutation-refutes t ticks prices kept (cut (has names) i is.left) of is.fact.0)
    (refutation-refutes t ticks prices dropped (cut (λ p. not (has names p)) i is.left) of is.fact.1))
