-- the law of trees: where a tree refutes a choice, no regular placement among it has its hold index among the ticks
use Rattle.std.proofs.Common.{◌≡◌, ⊎_elim, ℕ, ◌≤◌, ℤ, pos, ◌+ℤ◌, ◌-ℤ◌, true, not, List, [], ◌∷◌, map, zip, length, sym, ◌∙◌, subst, arith}
use Rattle.std.specs.Prelude.{◌≤ℤ◌, All}
use Rattle.std.specs.List.{AllByRecursion}
use Rattle.std.proofs.lemmas.Bool.{false≢true}
use Rattle.std.proofs.lemmas.Bool.Decides.{eqb_tells}
use Rattle.std.proofs.lemmas.Int.{ints}
use Rattle.std.proofs.lemmas.List.Elements.{recursion_from_All, All-head, All-tail}
use Rattle.base_words.specs.Lists.{int_sum_by}
use Rattle.hold_parts.specs.declared.parts.Item.{Item}
use Rattle.hold_parts.specs.Limits.{is_listed}
use Rattle.hold_limits.specs.BranchOrder.{ordered}
use Rattle.hold_limits.specs.Placement.{Placed, placed_moment, IsSound, hold_index}
use Rattle.hold_limits.specs.Problem.{Problem}
use Rattle.hold_limits.proofs.BranchOrderLemmas.{length-ordered}
use Rattle.price_trees.specs.Prices.{Choice, Candidate, candidates, IsAmong, End, Low, High, counted_from, Prices, value, AreOf}
use Rattle.price_trees.specs.Narrowing.{IsRegular, Ticks, IsIn, goal, narrowed_once, trimmed, cut}
use Rattle.price_trees.specs.Trees.{IsMultiple, first, IsMissed, Refuted, NoTick, Empty, Leaf, Residue, Narrow, Trim, Split}
use Rattle.price_trees.proofs.SignedSums.{times-zero, times-add}
use Rattle.price_trees.proofs.PriceLaw.{price-law, costs-law}
use Rattle.price_trees.proofs.NarrowingLemmas.{among-cut, among-cheap, among-narrowed, none-empty}

-- an index among the ticks does not pass the goal of a side
within-goal : (ticks : Ticks) (end : End) (index : ℤ) → IsIn ticks index → counted_from end index ≤ℤ goal ticks end
within-goal ticks Low index inside = inside.below
within-goal ticks High index inside = omega (arith, ints, inside.above)

-- Remainders ------------------------------------------------------------------------------------

multiple-zero : (g : ℕ) (z : ℤ) → z ≡ pos 0 → IsMultiple g z
multiple-zero g z none = record { times = pos 0; is = none ∙ sym (times-zero g) }

multiple-add : (g : ℕ) (a b z : ℤ) → z ≡ a +ℤ b → IsMultiple g a → IsMultiple g b → IsMultiple g z
multiple-add g a b z is first second = record { times = first.times +ℤ second.times; is = omega (arith, ints, is, first.is, second.is, times-add g first.times second.times) }

All-listed : (P : ℕ → Type 0) (set : List ℕ) (q : ℕ) → All P set → is_listed set q ≡ true → P q
All-listed P [] q all listed = absurd (false≢true listed)
All-listed P (p ∷ set) q all listed = ⊎_elim
    (λ same. subst P same.1 (All-head P p set all))
    (λ other. All-listed P set q (All-tail P p set all) (rw other.0 at listed))
    (eqb_tells p q)

sums-differ : (f : Placed → ℤ) (divisor : ℕ) (items : List Item) (path : List ℕ) (choice : Choice) → IsAmong path choice
    → AllByRecursion (λ (c : Candidate). All (λ q. IsMultiple divisor (f (c.0, q) -ℤ f (c.0, first c.1))) c.1) (zip items choice)
    → IsMultiple divisor (int_sum_by f (zip items path) -ℤ int_sum_by f (zip items (map first choice)))
sums-differ f divisor [] path choice among each = multiple-zero divisor _ (omega (arith, ints))
sums-differ f divisor (item ∷ items) [] [] among each = multiple-zero divisor _ (omega (arith, ints))
sums-differ f divisor (item ∷ items) [] (set ∷ choice) among each = absurd among
sums-differ f divisor (item ∷ items) (q ∷ path) [] among each = absurd among
sums-differ f divisor (item ∷ items) (q ∷ path) (set ∷ choice) among each = multiple-add divisor
    (f (item, q) -ℤ f (item, first set))
    (int_sum_by f (zip items path) -ℤ int_sum_by f (zip items (map first choice)))
    _ (omega (arith, ints))
    (All-listed (λ q. IsMultiple divisor (f (item, q) -ℤ f (item, first set))) set q each.0 among.0)
    (sums-differ f divisor items path choice among.1 each.1)

missed : (t : Problem) (ticks : Ticks) (choice : Choice) (path : List ℕ) → IsMissed t ticks choice → IsAmong path choice → IsIn ticks (hold_index t path) → ⊥
missed t ticks choice path misses among inside =
    let differ = sums-differ (placed_moment t.hold) misses.divisor (ordered t.items) path choice among (recursion_from_All _ (candidates t choice) misses.same) in
    misses.none (hold_index t path) inside (record { times = differ.times; is = omega (arith, ints, differ.is) })

-- The law ---------------------------------------------------------------------------------------

in-order : (t : Problem) (path : List ℕ) → IsSound t path → length path ≤ length (ordered t.items)
in-order t path sound = rw (length-ordered t.items) sound.short

pub among-trimmed : (t : Problem) (ticks : Ticks) (v : Prices) (choice : Choice) (path : List ℕ) → AreOf t v → IsRegular t path → IsIn ticks (hold_index t path) → IsAmong path choice
    → IsAmong path (trimmed t ticks v choice)
among-trimmed t ticks v choice path of regular inside among =
    let law = costs-law t choice v path of regular.sound regular.lateral among in
    let within = within-goal ticks v.end (hold_index t path) inside in
    among-cheap t.hold v (goal ticks v.end -ℤ value t choice v) (ordered t.items) path choice (in-order t path regular.sound) among (omega (arith, ints, law, within))

pub among-left_by_others : (t : Problem) (choice : Choice) (path : List ℕ) → IsRegular t path → IsAmong path choice → IsAmong path (narrowed_once t choice)
among-left_by_others t choice path regular among = among-narrowed t choice path (in-order t path regular.sound) regular among

pub tree-law : (t : Problem) (ticks : Ticks) (choice : Choice) (path : List ℕ) → Refuted t ticks choice → IsRegular t path → IsAmong path choice → IsIn ticks (hold_index t path) → ⊥
tree-law t ticks choice path (NoTick crossed) regular among inside = omega (arith, ints, crossed, inside.above, inside.below)
tree-law t ticks choice path (Empty empty) regular among inside = none-empty path choice among empty
tree-law t ticks choice path (Leaf v of passes) regular among inside =
    let law = price-law t choice v path of regular.sound regular.lateral among in
    let within = within-goal ticks v.end (hold_index t path) inside in
    omega (arith, ints, law, within, passes)
tree-law t ticks choice path (Residue misses) regular among inside = missed t ticks choice path misses among inside
tree-law t ticks choice path (Narrow rest) regular among inside = tree-law t ticks (narrowed_once t choice) path rest regular (among-left_by_others t choice path regular among) inside
tree-law t ticks choice path (Trim v of rest) regular among inside = tree-law t ticks (trimmed t ticks v choice) path rest regular (among-trimmed t ticks v choice path of regular inside among) inside
tree-law t ticks choice path (Split i test kept dropped) regular among inside = ⊎_elim
    (λ (one : IsAmong path (cut test i choice)). tree-law t ticks _ path kept regular one inside)
    (λ (other : IsAmong path (cut (λ p. not (test p)) i choice)). tree-law t ticks _ path dropped regular other inside)
    (among-cut test i path choice among)
