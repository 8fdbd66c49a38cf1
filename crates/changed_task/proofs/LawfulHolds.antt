-- a lawful hold is lawful with one limit changed
use Rattle.std.proofs.Common.{◌≡◌, ◌≢◌, ℕ, ◌<◌, ◌≤◌, false, List, length, arith}
use Rattle.std.proofs.lemmas.List.Edits.{length-remove}
use Rattle.std.proofs.lemmas.List.Quantifiers.{all_pairs_remove}
use Rattle.std.specs.Prelude.{All, AllPairs, remove}
use Rattle.mass_units.specs.declared.Kg.{Kg}
use Rattle.hold_parts.specs.declared.parts.Combined.{Combined}
use Rattle.hold_parts.specs.declared.parts.Cumulative.{Cumulative}
use Rattle.hold_parts.specs.declared.parts.Position.{Position}
use Rattle.hold_limits.specs.Bounds.{SamePair, KeepsHoldRules}
use Rattle.hold_limits.specs.Faults.{IsLawfulHold, is_bulk}
use Rattle.hold_limits.specs.Layout.{Layout}
use Rattle.hold_limits.proofs.LawfulBounds.{hold-bounds, hold-rules}
use Rattle.changed_task.specs.Parts.{changed_at, combined_of, cumulative_of, with_limits, without_exclude, with_combined, with_cumulative}
use Rattle.changed_task.proofs.PartLemmas.{All-changed_at, All-remove, length-changed_at}

-- Lists of limits -------------------------------------------------------------------------------

-- a hold with these positions may have these excluding pairs, these combined and these cumulative limits
record AreRightPairs (positions : List Position) (excludes : List (ℕ × ℕ)) : Type 0 where
  few : length excludes ≤ 256
  known : All (λ (pair : ℕ × ℕ). (pair.0 < length positions) × (pair.1 < length positions)) excludes
  two : All (λ (pair : ℕ × ℕ). pair.0 ≢ pair.1) excludes
  no_bulk : All (λ (pair : ℕ × ℕ). (is_bulk positions pair.0 ≡ false) × (is_bulk positions pair.1 ≡ false)) excludes
  once : AllPairs (λ (earlier later : ℕ × ℕ). SamePair earlier later → ⊥) excludes

record AreRightCombined (positions : List Position) (combined : List Combined) : Type 0 where
  few : length combined ≤ 64
  known : All (λ (limit : Combined). (1 ≤ length limit.places) × All (λ q. q < length positions) limit.places) combined
  rising : All (λ (limit : Combined). AllPairs (λ a b. a < b) limit.places) combined
  spelled : All (λ (limit : Combined). limit.most.0 ≤ 999999999) combined

record AreRightCumulative (positions : List Position) (cumulative : List Cumulative) : Type 0 where
  few : length cumulative ≤ 128
  known : All (λ (limit : Cumulative). limit.place < length positions) cumulative
  spelled : All (λ (limit : Cumulative). limit.most.0 ≤ 999999999) cumulative

right-pairs : (h : Layout) → IsLawfulHold h → AreRightPairs h.positions h.excludes
right-pairs h lawful =
    let rules = hold-bounds h lawful in
    record { few = rules.few_excludes; known = rules.excludes; two = rules.excludes_two; no_bulk = rules.excludes_no_bulk; once = rules.excludes_once }

right-combined : (h : Layout) → IsLawfulHold h → AreRightCombined h.positions h.combined
right-combined h lawful =
    let rules = hold-bounds h lawful in
    record { few = rules.few_combined; known = rules.combined; rising = rules.combined_rising; spelled = lawful.spelled.combined }

right-cumulative : (h : Layout) → IsLawfulHold h → AreRightCumulative h.positions h.cumulative
right-cumulative h lawful =
    let rules = hold-bounds h lawful in
    record { few = rules.few_cumulative; known = rules.cumulative; spelled = lawful.spelled.cumulative }

limits-rules : (h : Layout) (e : List (ℕ × ℕ)) (c : List Combined) (u : List Cumulative) → KeepsHoldRules h
    → AreRightPairs h.positions e → AreRightCombined h.positions c → AreRightCumulative h.positions u → KeepsHoldRules (with_limits h e c u)
limits-rules h e c u kept pairs combined cumulative = record {
  some_position = kept.some_position;
  positions = kept.positions;
  names = kept.names;
  influences = kept.influences;
  kinds = kept.kinds;
  different_kinds = kept.different_kinds;
  masses = kept.masses;
  few_excludes = pairs.few;
  few_combined = combined.few;
  few_cumulative = cumulative.few;
  excludes = pairs.known;
  excludes_two = pairs.two;
  excludes_no_bulk = pairs.no_bulk;
  excludes_once = pairs.once;
  combined = combined.known;
  combined_rising = combined.rising;
  cumulative = cumulative.known;
  sides = kept.sides;
  sides_rising = kept.sides_rising;
}

limits-lawful : (h : Layout) (e : List (ℕ × ℕ)) (c : List Combined) (u : List Cumulative) → IsLawfulHold h
    → AreRightPairs h.positions e → AreRightCombined h.positions c → AreRightCumulative h.positions u → IsLawfulHold (with_limits h e c u)
limits-lawful h e c u lawful pairs combined cumulative = record {
  right = (hold-rules (with_limits h e c u)).1 (limits-rules h e c u (hold-bounds h lawful) pairs combined cumulative);
  spelled = record {
    compartments = lawful.spelled.compartments;
    kinds = lawful.spelled.kinds;
    combined = combined.spelled;
    cumulative = cumulative.spelled;
    lateral = lawful.spelled.lateral;
  };
}

-- One limit changed -----------------------------------------------------------------------------

pub exclude-lawful : (h : Layout) (at : ℕ) → IsLawfulHold h → at < length h.excludes → IsLawfulHold (without_exclude h at)
exclude-lawful h at lawful within =
    let pairs = right-pairs h lawful in
    let fewer : AreRightPairs h.positions (remove h.excludes at) = record {
      few = omega (arith, length-remove h.excludes at within, pairs.few);
      known = All-remove (λ (pair : ℕ × ℕ). (pair.0 < length h.positions) × (pair.1 < length h.positions)) h.excludes at pairs.known;
      two = All-remove (λ (pair : ℕ × ℕ). pair.0 ≢ pair.1) h.excludes at pairs.two;
      no_bulk = All-remove (λ (pair : ℕ × ℕ). (is_bulk h.positions pair.0 ≡ false) × (is_bulk h.positions pair.1 ≡ false)) h.excludes at pairs.no_bulk;
      once = all_pairs_remove (λ (earlier later : ℕ × ℕ). SamePair earlier later → ⊥) h.excludes at within pairs.once;
    } in
    limits-lawful h (remove h.excludes at) h.combined h.cumulative lawful fewer (right-combined h lawful) (right-cumulative h lawful)

pub combined-lawful : (h : Layout) (at : ℕ) (most : Kg) → IsLawfulHold h → most.0 ≤ 999999999 → IsLawfulHold (with_combined h at most)
combined-lawful h at most lawful short =
    let combined = right-combined h lawful in
    let next : List Combined = changed_at (combined_of most) h.combined at in
    let right : AreRightCombined h.positions next = record {
      few = omega (arith, length-changed_at (combined_of most) h.combined at, combined.few);
      known = All-changed_at (λ (limit : Combined). (1 ≤ length limit.places) × All (λ q. q < length h.positions) limit.places)
          (combined_of most) (λ limit holds. holds) h.combined at combined.known;
      rising = All-changed_at (λ (limit : Combined). AllPairs (λ a b. a < b) limit.places) (combined_of most) (λ limit holds. holds) h.combined at combined.rising;
      spelled = All-changed_at (λ (limit : Combined). limit.most.0 ≤ 999999999) (combined_of most) (λ limit holds. short) h.combined at combined.spelled;
    } in
    limits-lawful h h.excludes next h.cumulative lawful (right-pairs h lawful) right (right-cumulative h lawful)

pub cumulative-lawful : (h : Layout) (at : ℕ) (most : Kg) → IsLawfulHold h → most.0 ≤ 999999999 → IsLawfulHold (with_cumulative h at most)
cumulative-lawful h at most lawful short =
    let cumulative = right-cumulative h lawful in
    let next : List Cumulative = changed_at (cumulative_of most) h.cumulative at in
    let right : AreRightCumulative h.positions next = record {
      few = omega (arith, length-changed_at (cumulative_of most) h.cumulative at, cumulative.few);
      known = All-changed_at (λ (limit : Cumulative). limit.place < length h.positions) (cumulative_of most) (λ limit holds. holds) h.cumulative at cumulative.known;
      spelled = All-changed_at (λ (limit : Cumulative). limit.most.0 ≤ 999999999) (cumulative_of most) (λ limit holds. short) h.cumulative at cumulative.spelled;
    } in
    limits-lawful h h.excludes h.combined next lawful (right-pairs h lawful) (right-combined h lawful) right
