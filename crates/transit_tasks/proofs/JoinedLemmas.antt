-- A path is admissible for the task around what stays exactly where it is admissible together with what stays.
use Rattle.std.proofs.Common.{◌≡◌, ◌≢◌, ◌⊎◌, ⊎_elim, inl, inr, ℕ, ◌<◌, ◌≤◌, pos, ◌+ℤ◌, ◌*ℤ◌, ◌≤ℤ◌, false, None, List, [], length, get_or, map, refl, ap, ap₂, sym, ◌∙◌, subst, arith}
use Rattle.std.proofs.lemmas.List.Elements.{All-append, All-weaker}
use Rattle.std.specs.Prelude.{All, AllPairs, ◌↔◌}
use Rattle.hold_parts.specs.Limits.{is_listed, is_counted}
use Rattle.hold_parts.specs.declared.parts.Combined.{Combined}
use Rattle.hold_parts.specs.declared.parts.Cumulative.{Cumulative}
use Rattle.hold_parts.specs.declared.parts.Loose.{Loose}
use Rattle.hold_limits.specs.BranchOrder.{ordered}
use Rattle.hold_limits.specs.Faults.{IsLawful}
use Rattle.hold_limits.specs.Lateral.{IsWithinLateral}
use Rattle.hold_limits.specs.Layout.{Layout}
use Rattle.hold_limits.specs.Placement.{Placed, placed, IsAccepted, Exclude, placed_moment, loose_moment, placed_lateral, loose_lateral, hold_index, lateral_difference, IsAdmissible}
use Rattle.hold_limits.specs.Problem.{Problem}
use Rattle.hold_limits.proofs.BranchOrderLemmas.{length-ordered}
use Rattle.hold_limits.proofs.EnumerationLemmas.{Any-weaker}
use Rattle.hold_limits.proofs.LawfulBounds.{lawful-bounds}
use Rattle.hold_limits.proofs.SoundLemmas.{All-front, AllPairs-front}
use Rattle.ldm_cpm.specs.Messages.{Placing}
use Rattle.transit_tasks.specs.Joined.{joined_containers, joined_loads, joined_index, difference_of, AreStowedSoundly, IsJoinedAdmissible}
use Rattle.transit_tasks.specs.NewTask.{is_closed, hold_around, loads_around, task_around}
use Rattle.transit_tasks.specs.Staying.{lying, staying_containers}
use Rattle.transit_tasks.specs.TransitFaults.{first_place_fault}
use Rattle.transit_tasks.proofs.AroundLemmas.{Spares, open-rule, accepted-around, exclude-around, influence-around}
use Rattle.transit_tasks.proofs.PairLemmas.{All-from_zip, AllPairs-across, AllPairs-append, AllPairs-back, AllPairs-from_zip, AllPairs-zip}
use Rattle.transit_tasks.proofs.PlaceLemmas.{staying-accepted, staying-apart, staying-compatible}
use Rattle.transit_tasks.proofs.SumLemmas.{int_sum_by-same, ints-joined, load-joined}

-- Sums ------------------------------------------------------------------------------------------

pub index-joined : (t : Problem) (stay : List Placing) (path : List ℕ) → hold_index (task_around t stay) path ≡ joined_index t stay path
index-joined t stay path =
    let around : Layout = hold_around t.hold (staying_containers t.hold.positions stay) in
    let influence = influence-around t.hold (staying_containers t.hold.positions stay) in
    ap₂ (λ a b. a +ℤ b)
    (int_sum_by-same (placed_moment around) (placed_moment t.hold) (λ p. ap (λ i. pos p.0.mass.0 *ℤ i) (influence p.1)) (placed t path))
    (int_sum_by-same (loose_moment around) (loose_moment t.hold) (λ l. ap (λ i. pos l.mass.0 *ℤ i) (influence l.position)) (loads_around t stay))
    ∙ ints-joined (placed_moment t.hold) (loose_moment t.hold) (λ p. refl) t stay path

difference-joined : (t : Problem) (stay : List Placing) (path : List ℕ)
    → lateral_difference (task_around t stay) path ≡ difference_of t.hold (joined_containers t stay path) (joined_loads t stay)
difference-joined t stay path = ints-joined (placed_lateral t.hold) (loose_lateral t.hold) (λ p. refl) t stay path

-- Positions -------------------------------------------------------------------------------------

Exclude-back : (hold : Layout) (a b : ℕ) → Exclude hold a b → Exclude hold b a
Exclude-back hold a b pair = Any-weaker
    (λ (pair : ℕ × ℕ). ((pair.0 ≡ a) × (pair.1 ≡ b)) ⊎ ((pair.0 ≡ b) × (pair.1 ≡ a)))
    (λ (pair : ℕ × ℕ). ((pair.0 ≡ b) × (pair.1 ≡ a)) ⊎ ((pair.0 ≡ a) × (pair.1 ≡ b)))
    (λ pair either. ⊎_elim (λ straight. inr straight) (λ across. inl across) either)
    hold.excludes pair

abbrev AreApart : Placed → Placed → Type 0
AreApart a b = a.1 ≢ b.1

abbrev AreCompatible : Layout → Placed → Placed → Type 0
AreCompatible hold a b = Exclude hold a.1 b.1 → ⊥

-- an open position is no container's own, and no container excludes it
abbrev IsOpen : Layout → List Placed → ℕ → Type 0
IsOpen hold containers q = is_closed hold containers q ≡ false

open-apart : (hold : Layout) (containers : List Placed) (p : Placed) → IsOpen hold containers p.1 → All (AreApart p) containers
open-apart hold containers p is_open =
    All-weaker (Spares hold p.1) (AreApart p) (λ c spares same. spares.0 (sym same)) containers ((open-rule hold containers p.1).0 is_open)

open-compatible : (hold : Layout) (containers : List Placed) (p : Placed) → IsOpen hold containers p.1 → All (AreCompatible hold p) containers
open-compatible hold containers p is_open =
    All-weaker (Spares hold p.1) (AreCompatible hold p) (λ c spares pair. spares.1 (Exclude-back hold p.1 c.1 pair)) containers ((open-rule hold containers p.1).0 is_open)

is-opened : (hold : Layout) (containers : List Placed) (p : Placed) → All (AreApart p) containers → All (AreCompatible hold p) containers → IsOpen hold containers p.1
is-opened hold containers p apart compatible = (open-rule hold containers p.1).1 (λ k d within.
    (λ same. apart k d within (sym same), λ pair. compatible k d within (Exclude-back hold (get_or containers k d).1 p.1 pair)))

-- open positions that exclude each other do so around what stays, and the other way round
compatible-around : (hold : Layout) (containers : List Placed) (path : List ℕ) → All (IsOpen hold containers) path
    → AllPairs (λ a b. Exclude (hold_around hold containers) a b → ⊥) path ↔ AllPairs (λ a b. Exclude hold a b → ⊥) path
compatible-around hold containers path all = (
  λ pairs i j d before within pair. pairs i j d before within ((same i j d before within).1 pair),
  λ pairs i j d before within pair. pairs i j d before within ((same i j d before within).0 pair),
)
  where
    same : (i j : ℕ) (d : ℕ) → i < j → j < length path → Exclude (hold_around hold containers) (get_or path i d) (get_or path j d) ↔ Exclude hold (get_or path i d) (get_or path j d)
    same i j d before within = exclude-around hold containers (get_or path i d) (get_or path j d) (all i d (omega arith)) (all j d within)

-- Paths -----------------------------------------------------------------------------------------

to-joined : (t : Problem) (stay : List Placing) (path : List ℕ) → first_place_fault t [] stay ≡ None → IsLawful (task_around t stay)
    → IsAdmissible (task_around t stay) path → IsJoinedAdmissible t stay path
to-joined t stay path none lawful admissible =
    let sound = admissible.sound in
    let containers : List Placed = staying_containers t.hold.positions stay in
    let own : List Placed = placed t path in
    let short : length path ≤ length (ordered t.items) = omega (arith, length-ordered t.items, admissible.complete) in
    let is_open : All (λ (p : Placed). IsOpen t.hold containers p.1) own =
    λ k d within. ((accepted-around t.hold containers (get_or own k d)).0 (sound.accepted k d within)).1 in
    let open_path : All (IsOpen t.hold containers) path = All-from_zip (IsOpen t.hold containers) (ordered t.items) path short is_open in
    let once : AllPairs (λ (a b : Loose). a.position ≢ b.position) (loads_around t stay) = (lawful-bounds (task_around t stay) lawful).loose_once in
    let lies_once = AllPairs-back (λ (a b : Loose). a.position ≢ b.position) t.loose (map (lying t.hold.positions) stay) once in
    let stows : AreStowedSoundly t.hold (joined_containers t stay path) (joined_loads t stay) = record {
      accepted = All-append (IsAccepted t.hold) own containers
          (λ k d within. ((accepted-around t.hold containers (get_or own k d)).0 (sound.accepted k d within)).0)
          (staying-accepted t stay none);
      apart = AllPairs-append AreApart own containers
          (AllPairs-zip (λ a b. a ≢ b) (ordered t.items) path short sound.apart)
          (staying-apart t.hold.positions stay lies_once)
          (λ k d within. open-apart t.hold containers (get_or own k d) (is_open k d within));
      compatible = AllPairs-append (AreCompatible t.hold) own containers
          (AllPairs-zip (λ a b. Exclude t.hold a b → ⊥) (ordered t.items) path short ((compatible-around t.hold containers path open_path).0 sound.compatible))
          (staying-compatible t stay none)
          (λ k d within. open-compatible t.hold containers (get_or own k d) (is_open k d within));
      combined = λ k d within.
          let c : Combined = get_or t.hold.combined k d in
          omega (arith, load-joined (is_listed c.places) t stay path, sound.combined k d within);
      cumulative = λ k d within.
          let c : Cumulative = get_or t.hold.cumulative k d in
          omega (arith, load-joined (is_counted c) t stay path, sound.cumulative k d within);
    } in
    record {
      complete = admissible.complete;
      sound = stows;
      low = subst (λ z. t.low ≤ℤ z) (index-joined t stay path) admissible.low;
      high = subst (λ z. z ≤ℤ t.high) (index-joined t stay path) admissible.high;
      lateral = subst (IsWithinLateral t.hold) (difference-joined t stay path) admissible.lateral;
    }

from-joined : (t : Problem) (stay : List Placing) (path : List ℕ) → IsJoinedAdmissible t stay path → IsAdmissible (task_around t stay) path
from-joined t stay path joined =
    let stows = joined.sound in
    let containers : List Placed = staying_containers t.hold.positions stay in
    let own : List Placed = placed t path in
    let short : length path ≤ length (ordered t.items) = omega (arith, length-ordered t.items, joined.complete) in
    let apart = AllPairs-across AreApart own containers stows.apart in
    let compatible = AllPairs-across (AreCompatible t.hold) own containers stows.compatible in
    let accepted = All-front (IsAccepted t.hold) own containers stows.accepted in
    let is_open : All (λ (p : Placed). IsOpen t.hold containers p.1) own =
    λ k d within. is-opened t.hold containers (get_or own k d) (apart k d within) (compatible k d within) in
    let open_path : All (IsOpen t.hold containers) path = All-from_zip (IsOpen t.hold containers) (ordered t.items) path short is_open in
    record {
      sound = record {
        short = omega (arith, joined.complete);
        accepted = λ k d within. (accepted-around t.hold containers (get_or own k d)).1 (accepted k d within, is_open k d within);
        apart = AllPairs-from_zip (λ a b. a ≢ b) (ordered t.items) path short (AllPairs-front AreApart own containers stows.apart);
        compatible = (compatible-around t.hold containers path open_path).1
            (AllPairs-from_zip (λ a b. Exclude t.hold a b → ⊥) (ordered t.items) path short (AllPairs-front (AreCompatible t.hold) own containers stows.compatible));
        combined = λ k d within.
            let c : Combined = get_or t.hold.combined k d in
            omega (arith, load-joined (is_listed c.places) t stay path, stows.combined k d within);
        cumulative = λ k d within.
            let c : Cumulative = get_or t.hold.cumulative k d in
            omega (arith, load-joined (is_counted c) t stay path, stows.cumulative k d within);
      };
      complete = joined.complete;
      low = subst (λ z. t.low ≤ℤ z) (sym (index-joined t stay path)) joined.low;
      high = subst (λ z. z ≤ℤ t.high) (sym (index-joined t stay path)) joined.high;
      lateral = subst (IsWithinLateral t.hold) (sym (difference-joined t stay path)) joined.lateral;
    }

pub same-paths : (t : Problem) (stay : List Placing) → first_place_fault t [] stay ≡ None → IsLawful (task_around t stay)
    → (path : List ℕ) → IsAdmissible (task_around t stay) path ↔ IsJoinedAdmissible t stay path
same-paths t stay none lawful path = (to-joined t stay path none lawful, from-joined t stay path)
