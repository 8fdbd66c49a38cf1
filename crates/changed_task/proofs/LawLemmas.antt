-- which paths stay admissible under a change
use Rattle.std.proofs.Common.{◌≡◌, ◌∙◌, ◌⊎◌, ℕ, ◌≤◌, ℤ, ◌≤ℤ◌, List, Option, Some, None, option_map, refl, ap, sym, arith}
use Rattle.std.proofs.lemmas.Int.{ints}
use Rattle.std.specs.Prelude.{slice_get}
use Rattle.mass_units.specs.declared.Kg.{Kg}
use Rattle.hold_parts.specs.Limits.{is_listed, is_counted}
use Rattle.hold_parts.specs.declared.parts.Combined.{Combined}
use Rattle.hold_parts.specs.declared.parts.Cumulative.{Cumulative}
use Rattle.hold_parts.specs.declared.parts.Lateral.{Lateral}
use Rattle.hold_limits.specs.Layout.{layout_under}
use Rattle.hold_limits.specs.Placement.{load_of, KeepsLateralLimit, IsAdmissible}
use Rattle.hold_limits.specs.Problem.{Problem}
use Rattle.changed_task.specs.Parts.{combined_of, cumulative_of, lateral_of, with_limits, without_exclude, with_combined, with_cumulative, with_lateral_most, in_hold, in_window}
use Rattle.changed_task.proofs.PartLemmas.{All-changed_again, Any-from_remove, changed_at-same}

-- Greater masses --------------------------------------------------------------------------------

at-most : (n v w : ℕ) → n ≤ v → v ≤ w → n ≤ w
at-most n v w under over = omega (arith, under, over)

pub combined-leaves : (t : Problem) (at : ℕ) (v w : Kg) (path : List ℕ) → v.0 ≤ w.0
    → IsAdmissible (in_hold t (with_combined t.hold at v)) path → IsAdmissible (in_hold t (with_combined t.hold at w)) path
combined-leaves t at v w path over admissible =
    let sound = admissible.sound in
    record {
      sound = record {
        short = sound.short;
        accepted = sound.accepted;
        apart = sound.apart;
        compatible = sound.compatible;
        combined = All-changed_again (λ (c : Combined). load_of (is_listed c.places) t path ≤ c.most.0) (combined_of v) (combined_of w)
            (λ c kept. at-most (load_of (is_listed c.places) t path) v.0 w.0 kept over) t.hold.combined at sound.combined;
        cumulative = sound.cumulative;
      };
      complete = admissible.complete;
      low = admissible.low;
      high = admissible.high;
      lateral = admissible.lateral;
    }

pub cumulative-leaves : (t : Problem) (at : ℕ) (v w : Kg) (path : List ℕ) → v.0 ≤ w.0
    → IsAdmissible (in_hold t (with_cumulative t.hold at v)) path → IsAdmissible (in_hold t (with_cumulative t.hold at w)) path
cumulative-leaves t at v w path over admissible =
    let sound = admissible.sound in
    record {
      sound = record {
        short = sound.short;
        accepted = sound.accepted;
        apart = sound.apart;
        compatible = sound.compatible;
        combined = sound.combined;
        cumulative = All-changed_again (λ (c : Cumulative). load_of (is_counted c) t path ≤ c.most.0) (cumulative_of v) (cumulative_of w)
            (λ c kept. at-most (load_of (is_counted (cumulative_of v c)) t path) v.0 w.0 kept over) t.hold.cumulative at sound.cumulative;
      };
      complete = admissible.complete;
      low = admissible.low;
      high = admissible.high;
      lateral = admissible.lateral;
    }

-- the task under this lateral limit, or under none
abbrev under : Problem → Option Lateral → Problem
under t limit = in_hold t (layout_under limit t.hold.positions t.hold.excludes t.hold.combined t.hold.cumulative)

lateral-kept : (t : Problem) (v w : Kg) (path : List ℕ) (limit : Option Lateral) → v.0 ≤ w.0
    → KeepsLateralLimit (under t (option_map (lateral_of v) limit)) path → KeepsLateralLimit (under t (option_map (lateral_of w) limit)) path
lateral-kept t v w path None over kept = tt
lateral-kept t v w path (Some limit) over kept = at-most _ v.0 w.0 kept over

pub lateral-leaves : (t : Problem) (v w : Kg) (path : List ℕ) → v.0 ≤ w.0
    → IsAdmissible (in_hold t (with_lateral_most t.hold v)) path → IsAdmissible (in_hold t (with_lateral_most t.hold w)) path
lateral-leaves t v w path over admissible =
    let sound = admissible.sound in
    record {
      sound = record {
        short = sound.short;
        accepted = sound.accepted;
        apart = sound.apart;
        compatible = sound.compatible;
        combined = sound.combined;
        cumulative = sound.cumulative;
      };
      complete = admissible.complete;
      low = admissible.low;
      high = admissible.high;
      lateral = lateral-kept t v w path t.hold.lateral over admissible.lateral;
    }

-- Wider windows ---------------------------------------------------------------------------------

not-above : (a b c : ℤ) → a ≤ℤ b → b ≤ℤ c → a ≤ℤ c
not-above a b c first second = grind (arith, ints)

-- a window that goes as far at both ends, or further
pub window-leaves : (t : Problem) (low high lower higher : ℤ) (path : List ℕ) → lower ≤ℤ low → high ≤ℤ higher
    → IsAdmissible (in_window t low high) path → IsAdmissible (in_window t lower higher) path
window-leaves t low high lower higher path below above admissible =
    let sound = admissible.sound in
    record {
      sound = record {
        short = sound.short;
        accepted = sound.accepted;
        apart = sound.apart;
        compatible = sound.compatible;
        combined = sound.combined;
        cumulative = sound.cumulative;
      };
      complete = admissible.complete;
      low = not-above lower low _ below admissible.low;
      high = not-above _ high higher admissible.high above;
      lateral = admissible.lateral;
    }

pub not-above-itself : (a : ℤ) → a ≤ℤ a
not-above-itself a = grind (arith, ints)

-- The same masses -------------------------------------------------------------------------------

pub combined-same : (t : Problem) (at : ℕ) (limit : Combined) → slice_get t.hold.combined at ≡ Some limit → in_hold t (with_combined t.hold at limit.most) ≡ t
combined-same t at limit there =
    ap (λ (xs : List Combined). in_hold t (with_limits t.hold t.hold.excludes xs t.hold.cumulative))
    (changed_at-same (combined_of limit.most) t.hold.combined at limit there refl)

pub cumulative-same : (t : Problem) (at : ℕ) (limit : Cumulative) → slice_get t.hold.cumulative at ≡ Some limit → in_hold t (with_cumulative t.hold at limit.most) ≡ t
cumulative-same t at limit there =
    ap (λ (xs : List Cumulative). in_hold t (with_limits t.hold t.hold.excludes t.hold.combined xs))
    (changed_at-same (cumulative_of limit.most) t.hold.cumulative at limit there refl)

pub lateral-same : (t : Problem) (limit : Lateral) → t.hold.lateral ≡ Some limit → in_hold t (with_lateral_most t.hold limit.most) ≡ t
lateral-same t limit has = ap (λ (o : Option Lateral). under t (option_map (lateral_of limit.most) o)) has ∙ ap (under t) (sym has)

-- One pair fewer --------------------------------------------------------------------------------

-- the pair is of these two positions, in either order
abbrev Joins : ℕ → ℕ → ℕ × ℕ → Type 0
Joins a b pair = ((pair.0 ≡ a) × (pair.1 ≡ b)) ⊎ ((pair.0 ≡ b) × (pair.1 ≡ a))

pub exclude-leaves : (t : Problem) (at : ℕ) (path : List ℕ) → IsAdmissible t path → IsAdmissible (in_hold t (without_exclude t.hold at)) path
exclude-leaves t at path admissible =
    let sound = admissible.sound in
    record {
      sound = record {
        short = sound.short;
        accepted = sound.accepted;
        apart = sound.apart;
        compatible = λ i j d before within pair. sound.compatible i j d before within (Any-from_remove (Joins _ _) t.hold.excludes at pair);
        combined = sound.combined;
        cumulative = sound.cumulative;
      };
      complete = admissible.complete;
      low = admissible.low;
      high = admissible.high;
      lateral = admissible.lateral;
    }
