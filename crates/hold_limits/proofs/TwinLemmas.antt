-- twins, and placements in which twins stand in rising order
use Rattle.std.proofs.Common.{sym, ◌≡◌, ℕ, ◌<◌, Bool, true, false, not, ◌||◌, nat_lt, ◌≤◌, List, length, take, get_or, Some, refl, ◌∙◌}
use Rattle.std.proofs.lemmas.Bool.{false≢true}
use Rattle.std.proofs.lemmas.Bool.Decides.{Decides-eqb, Decides-and, Decides-ltb}
use Rattle.std.proofs.lemmas.Slice.Eq.{bytes_eq-Decides}
use Rattle.std.specs.Bool.{Decides}
use Rattle.std.specs.Prelude.{◌↔◌, All, slice_get}
use Rattle.hold_parts.specs.declared.parts.Item.{Item}
use Rattle.hold_parts.specs.Accepting.{kind_of}
use Rattle.hold_parts.specs.Twins.{AreTwins, are_twins}
use Rattle.hold_limits.specs.Problem.{Problem}
use Rattle.hold_limits.specs.BranchOrder.{ordered}
use Rattle.hold_limits.specs.Placement.{Placed, placed}
use Rattle.hold_limits.specs.Twins.{IsRising, is_rising}
use Rattle.hold_limits.proofs.EnumerationLemmas.{AllPairs-Decides}
use Rattle.hold_limits.proofs.PlacedLemmas.{get_or-placed, placed-take}

pub are_twins-Decides : (a b : Item) → Decides (are_twins a b) (AreTwins a b)
are_twins-Decides a b = Decides-and _ _ (bytes_eq-Decides (kind_of a) (kind_of b)) (Decides-eqb a.mass.0 b.mass.0)

pub AreTwins-sym : (a b : Item) → AreTwins a b → AreTwins b a
AreTwins-sym a b twins = (sym twins.0, sym twins.1)

pub AreTwins-trans : (a b c : Item) → AreTwins a b → AreTwins b c → AreTwins a c
AreTwins-trans a b c first second = (first.0 ∙ second.0, first.1 ∙ second.1)

-- a test with a premise
implies-Decides : {P Q : Type 0} (p q : Bool) → Decides p P → Decides q Q → Decides (not p || q) (P → Q)
implies-Decides true q first second = (λ is premise. second.0 is, λ holds. second.1 (holds (first.0 refl)))
implies-Decides false q first second = (λ is premise. absurd (false≢true (first.1 premise)), λ holds. refl)

-- the test of rising is true exactly of the rising prefixes
pub is_rising-Decides : (t : Problem) (prefix : List ℕ) → Decides (is_rising t prefix) (IsRising t prefix)
is_rising-Decides t prefix = AllPairs-Decides
    (λ (a b : Placed). not (are_twins a.0 b.0) || nat_lt a.1 b.1)
    (λ (a b : Placed). AreTwins a.0 b.0 → a.1 < b.1)
    (λ a b. implies-Decides (are_twins a.0 b.0) (nat_lt a.1 b.1) (are_twins-Decides a.0 b.0) (Decides-ltb a.1 b.1))
    (placed t prefix)

-- of two placed containers, with numbers in this order
abbrev pub RisesTo : Placed → Placed → Type 0
RisesTo a b = AreTwins a.0 b.0 → a.1 < b.1

-- the twins of the container of a rank stand below its number exactly if each placed before it rises to it
pub rises-at : (t : Problem) (prefix : List ℕ) (rank : ℕ) (item : Item) (d : Placed) → length prefix ≤ length t.items → rank < length prefix → slice_get (ordered t.items) rank ≡ Some item
    → All (λ (a : Placed). AreTwins a.0 item → a.1 < get_or prefix rank 0) (placed t (take rank prefix))
    ↔ All (λ (a : Placed). RisesTo a (get_or (placed t prefix) rank d)) (take rank (placed t prefix))
rises-at t prefix rank item d short within there =
    rw (get_or-placed t prefix rank _ item d short within there refl, placed-take t rank prefix) (λ x. x, λ x. x)
