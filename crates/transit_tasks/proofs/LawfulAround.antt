-- the hold around what stays is lawful
use Rattle.std.proofs.Common.{◌≡◌, ◌≢◌, ℕ, ◌<◌, ◌≤◌, Bool, true, false, not, ◌&&◌, Some, None, Option, List, length, get_or, refl, ap, sym, ◌∙◌, subst, arith, unsigned_abs}
use Rattle.std.proofs.lemmas.Bool.{false≢true}
use Rattle.std.proofs.lemmas.List.Elements.{All-filter, filter_passes}
use Rattle.std.proofs.lemmas.List.Kept.{AllPairs-filter}
use Rattle.std.specs.Prelude.{All, AllPairs, IfSome}
use Rattle.hold_parts.specs.Spellings.{IsKind}
use Rattle.hold_parts.specs.declared.lists.Fit.{Fit}
use Rattle.hold_parts.specs.declared.parts.Combined.{Combined}
use Rattle.hold_parts.specs.declared.parts.Cumulative.{Cumulative}
use Rattle.hold_parts.specs.declared.parts.Lateral.{Lateral}
use Rattle.hold_parts.specs.declared.parts.Position.{Position}
use Rattle.hold_limits.specs.Bounds.{HasUpTo16Kinds, IsContainerMass, SamePair, KeepsHoldRules}
use Rattle.hold_limits.specs.Faults.{IsLawfulHold, IsWellSpelled, is_bulk}
use Rattle.hold_limits.specs.Lateral.{sides_of}
use Rattle.hold_limits.specs.Layout.{Layout, layout_of, layout_under, with_lateral}
use Rattle.hold_limits.specs.Placement.{Placed}
use Rattle.hold_limits.proofs.LawfulBounds.{hold-bounds, hold-rules}
use Rattle.transit_tasks.specs.NewTask.{is_closed, is_open_pair, positions_around, excludes_around, hold_around}
use Rattle.transit_tasks.proofs.AroundLemmas.{All-around, bulk-around, length-around, name-around}
use Rattle.transit_tasks.proofs.PairLemmas.{length-filter_few}

-- an open pair has two open positions
open-ends : (one other : Bool) → (not one && not other) ≡ true → (one ≡ false) × (other ≡ false)
open-ends false false is = (refl, refl)
open-ends false true is = absurd (false≢true is)
open-ends true other is = absurd (false≢true is)

-- what is said of how many positions there are
abbrev Counts : (ℕ → Type 0) → Layout → List Placed → Type 0
Counts P hold containers = P (length (positions_around hold containers))

counted : (P : ℕ → Type 0) (hold : Layout) (containers : List Placed) → P (length hold.positions) → Counts P hold containers
counted P hold containers holds = subst P (sym (length-around hold containers)) holds

around-rules : (hold : Layout) (containers : List Placed) → KeepsHoldRules hold → KeepsHoldRules (hold_around hold containers)
around-rules hold containers kept = record {
  some_position = counted (λ n. 0 < n) hold containers kept.some_position;
  positions = counted (λ n. n ≤ 64) hold containers kept.positions;
  names = λ i j d before within.
      let inside : j < length hold.positions = omega (arith, length-around hold containers) in
      let earlier = name-around hold containers i d (omega arith) in
      let later = name-around hold containers j d inside in
      λ same. kept.names i j d before inside (sym earlier ∙ same ∙ later);
  influences = All-around (λ (p : Position). unsigned_abs p.influence ≤ 100000) (λ p holds. holds) hold containers kept.influences;
  kinds = All-around (λ (p : Position). HasUpTo16Kinds p.bulk p.fits) (λ p holds. refl) hold containers kept.kinds;
  different_kinds = All-around (λ (p : Position). AllPairs (λ (a b : Fit). a.kind ≢ b.kind) p.fits) (λ p holds i j d before within. absurd (omega arith)) hold containers kept.different_kinds;
  masses = All-around (λ (p : Position). All IsContainerMass p.fits) (λ p holds k d within. absurd (omega arith)) hold containers kept.masses;
  few_excludes = omega (arith, length-filter_few (is_open_pair hold containers) hold.excludes, kept.few_excludes);
  few_combined = kept.few_combined;
  few_cumulative = kept.few_cumulative;
  excludes = counted (λ n. All (λ (pair : ℕ × ℕ). (pair.0 < n) × (pair.1 < n)) (excludes_around hold containers)) hold containers
      (All-filter (is_open_pair hold containers) (λ (pair : ℕ × ℕ). (pair.0 < length hold.positions) × (pair.1 < length hold.positions)) hold.excludes kept.excludes);
  excludes_two = All-filter (is_open_pair hold containers) (λ (pair : ℕ × ℕ). pair.0 ≢ pair.1) hold.excludes kept.excludes_two;
  excludes_no_bulk = λ k d within.
      let pair : ℕ × ℕ = get_or (excludes_around hold containers) k d in
      let ends = open-ends (is_closed hold containers pair.0) (is_closed hold containers pair.1) (filter_passes (is_open_pair hold containers) hold.excludes k d within) in
      let before = All-filter (is_open_pair hold containers) (λ (pair : ℕ × ℕ). (is_bulk hold.positions pair.0 ≡ false) × (is_bulk hold.positions pair.1 ≡ false)) hold.excludes kept.excludes_no_bulk k d within in
      (bulk-around hold containers pair.0 ends.0 ∙ before.0, bulk-around hold containers pair.1 ends.1 ∙ before.1);
  excludes_once = AllPairs-filter (λ (earlier later : ℕ × ℕ). SamePair earlier later → ⊥) (is_open_pair hold containers) hold.excludes kept.excludes_once;
  combined = counted (λ n. All (λ (limit : Combined). (1 ≤ length limit.places) × All (λ q. q < n) limit.places) hold.combined) hold containers kept.combined;
  combined_rising = kept.combined_rising;
  cumulative = counted (λ n. All (λ (limit : Cumulative). limit.place < n) hold.cumulative) hold containers kept.cumulative;
  sides = counted (λ n. All (λ (side : ℕ × Bool). side.0 < n) (sides_of hold)) hold containers kept.sides;
  sides_rising = kept.sides_rising;
}

around-spelled : (hold : Layout) (containers : List Placed) → IsWellSpelled hold → IsWellSpelled (hold_around hold containers)
around-spelled hold containers spelled = record {
  compartments = All-around (λ (p : Position). p.compartment ≤ 9) (λ p holds. holds) hold containers spelled.compartments;
  kinds = All-around (λ (p : Position). All (λ (fit : Fit). IsKind fit.kind) p.fits) (λ p holds k d within. absurd (omega arith)) hold containers spelled.kinds;
  combined = spelled.combined;
  cumulative = spelled.cumulative;
  lateral = spelled.lateral;
}

pub around-lawful : (hold : Layout) (containers : List Placed) → IsLawfulHold hold → IsLawfulHold (hold_around hold containers)
around-lawful hold containers lawful = record {
  right = (hold-rules (hold_around hold containers)).1 (around-rules hold containers (hold-bounds hold lawful));
  spelled = around-spelled hold containers lawful.spelled;
}

-- Without a lateral limit -----------------------------------------------------------------------

abbrev without_lateral : Layout → Layout
without_lateral hold = layout_of hold.positions hold.excludes hold.combined hold.cumulative

bare-rules : (hold : Layout) → KeepsHoldRules hold → KeepsHoldRules (without_lateral hold)
bare-rules hold kept = record {
  some_position = kept.some_position;
  positions = kept.positions;
  names = kept.names;
  influences = kept.influences;
  kinds = kept.kinds;
  different_kinds = kept.different_kinds;
  masses = kept.masses;
  few_excludes = kept.few_excludes;
  few_combined = kept.few_combined;
  few_cumulative = kept.few_cumulative;
  excludes = kept.excludes;
  excludes_two = kept.excludes_two;
  excludes_no_bulk = kept.excludes_no_bulk;
  excludes_once = kept.excludes_once;
  combined = kept.combined;
  combined_rising = kept.combined_rising;
  cumulative = kept.cumulative;
  sides = λ k d within. absurd (omega arith);
  sides_rising = λ i j d before within. absurd (omega arith);
}

-- a lawful hold is one without its lateral limit too
pub bare-lawful : (hold : Layout) → IsLawfulHold hold → IsLawfulHold (without_lateral hold)
bare-lawful hold lawful = record {
  right = (hold-rules (without_lateral hold)).1 (bare-rules hold (hold-bounds hold lawful));
  spelled = record {
    compartments = lawful.spelled.compartments;
    kinds = lawful.spelled.kinds;
    combined = lawful.spelled.combined;
    cumulative = lawful.spelled.cumulative;
    lateral = tt;
  };
}

-- Under a lateral limit -------------------------------------------------------------------------

pub lateral-spelled : (hold : Layout) (l : Lateral) → IsLawfulHold hold → hold.lateral ≡ Some l → l.most.0 ≤ 999999999
lateral-spelled hold l lawful has =
    let Spelled : Option Lateral → Type 0 = λ o. IfSome o (λ (limit : Lateral). limit.most.0 ≤ 999999999) in
    subst Spelled has lawful.spelled.lateral

-- the bare hold around what stays, under the lateral limit that the hold has, or under none
pub bare-under : (hold : Layout) (containers : List Placed) (bare : Layout) (l : Lateral) → hold.lateral ≡ Some l
    → bare ≡ layout_of (positions_around hold containers) (excludes_around hold containers) hold.combined hold.cumulative → with_lateral bare l ≡ hold_around hold containers
bare-under hold containers bare l has is =
    ap (λ (h : Layout). with_lateral h l) is
    ∙ ap (λ (o : Option Lateral). layout_under o (positions_around hold containers) (excludes_around hold containers) hold.combined hold.cumulative) (sym has)

pub bare-alone : (hold : Layout) (containers : List Placed) (bare : Layout) → hold.lateral ≡ None
    → bare ≡ layout_of (positions_around hold containers) (excludes_around hold containers) hold.combined hold.cumulative → bare ≡ hold_around hold containers
bare-alone hold containers bare none is =
    is ∙ ap (λ (o : Option Lateral). layout_under o (positions_around hold containers) (excludes_around hold containers) hold.combined hold.cumulative) (sym none)
