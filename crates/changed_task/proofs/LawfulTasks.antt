-- a lawful task is lawful with another window, and with one container fewer
use Rattle.std.proofs.Common.{◌≡◌, ◌≢◌, ℕ, ◌<◌, ◌≤◌, ℤ, List, None, length, arith, unsigned_abs}
use Rattle.std.proofs.lemmas.List.Edits.{length-remove}
use Rattle.std.proofs.lemmas.List.Quantifiers.{all_pairs_remove}
use Rattle.std.specs.Prelude.{All, AllPairs, remove}
use Rattle.hold_parts.specs.declared.parts.Item.{Item}
use Rattle.hold_limits.specs.Bounds.{KeepsTaskRules}
use Rattle.hold_limits.specs.Faults.{IsLawful, task_fault}
use Rattle.hold_limits.specs.Problem.{Problem}
use Rattle.hold_limits.proofs.LawfulBounds.{lawful-bounds, task-rules}
use Rattle.changed_task.specs.Parts.{with_parts, in_window, without_item}
use Rattle.changed_task.proofs.PartLemmas.{All-remove}

-- the offer and the window of a task in the same hold
own-hold-right : (t : Problem) (items : List Item) (low high : ℤ) → IsLawful t
    → length items ≤ 60 → AllPairs (λ (a b : Item). a.id ≢ b.id) items → All (λ (item : Item). item.mass.0 ≤ 20000) items
    → unsigned_abs low ≤ 1000000000 → unsigned_abs high ≤ 1000000000 → task_fault (with_parts t t.hold items low high) ≡ None
own-hold-right t items low high lawful few apart light low_near high_near =
    let kept = lawful-bounds t lawful in
    let rules : KeepsTaskRules (with_parts t t.hold items low high) = record {
      some_position = kept.some_position;
      positions = kept.positions;
      influences = kept.influences;
      items = few;
      identities = apart;
      item_masses = light;
      loose = kept.loose;
      loose_masses = kept.loose_masses;
      loose_known = kept.loose_known;
      loose_bulk = kept.loose_bulk;
      loose_once = kept.loose_once;
      base = kept.base;
      low = low_near;
      high = high_near;
      ideal_low = kept.ideal_low;
      ideal_high = kept.ideal_high;
      band = kept.band;
    } in
    (task-rules (with_parts t t.hold items low high) lawful.hold).1 rules

pub in_window-right : (t : Problem) (low high : ℤ) → IsLawful t → unsigned_abs low ≤ 1000000000 → unsigned_abs high ≤ 1000000000
    → task_fault (in_window t low high) ≡ None
in_window-right t low high lawful low_near high_near =
    let kept = lawful-bounds t lawful in
    own-hold-right t t.items low high lawful kept.items kept.identities kept.item_masses low_near high_near

pub without_item-right : (t : Problem) (at : ℕ) → IsLawful t → at < length t.items → task_fault (without_item t at) ≡ None
without_item-right t at lawful within =
    let kept = lawful-bounds t lawful in
    own-hold-right t (remove t.items at) t.low t.high lawful
    (omega (arith, length-remove t.items at within, kept.items))
    (all_pairs_remove (λ (a b : Item). a.id ≢ b.id) t.items at within kept.identities)
    (All-remove (λ (item : Item). item.mass.0 ≤ 20000) t.items at kept.item_masses)
    kept.low
    kept.high

pub window-near : (t : Problem) → IsLawful t → (unsigned_abs t.low ≤ 1000000000) × (unsigned_abs t.high ≤ 1000000000)
window-near t lawful =
    let kept = lawful-bounds t lawful in
    (kept.low, kept.high)
