-- the new task, from its parts, and its fault
use Rattle.std.proofs.Common.{◌≡◌, ◌∙◌, ℤ, List, [], Option, Some, None, option_map, refl, ap, sym}
use Rattle.std.specs.Option.{option_or}
use Rattle.hold_parts.specs.declared.parts.Item.{Item}
use Rattle.hold_parts.specs.declared.parts.Loose.{Loose}
use Rattle.hold_limits.specs.Faults.{IsLawful, task_fault}
use Rattle.hold_limits.specs.Layout.{Layout}
use Rattle.hold_limits.specs.Problem.{Problem}
use Rattle.hold_limits.specs.declared.fault.TaskFault.{TaskFault}
use Rattle.ldm_cpm.specs.Messages.{Placing}
use Rattle.transit_tasks.specs.NewTask.{hold_around, loads_around, task_around}
use Rattle.transit_tasks.specs.Staying.{staying_containers}
use Rattle.transit_tasks.specs.TransitFaults.{first_place_fault, transit_fault}
use Rattle.transit_tasks.specs.declared.fault.TransitFault.{TransitFault}
use Rattle.transit_tasks.specs.declared.fault.TransitFault.TheVariants.{Task}

abbrev pub with_parts : Layout → List Item → List Loose → ℤ → ℤ → ℤ → ℤ → ℤ → Problem
with_parts hold items loose base low high ideal_low ideal_high =
    record { hold = hold; items = items; loose = loose; base = base; low = low; high = high; ideal_low = ideal_low; ideal_high = ideal_high }

pub new-is : (t : Problem) (stay : List Placing) (hold : Layout) (items : List Item) (loose : List Loose) (base low high ideal_low ideal_high : ℤ)
    → hold ≡ hold_around t.hold (staying_containers t.hold.positions stay) → items ≡ t.items → loose ≡ loads_around t stay
    → base ≡ t.base → low ≡ t.low → high ≡ t.high → ideal_low ≡ t.ideal_low → ideal_high ≡ t.ideal_high
    → with_parts hold items loose base low high ideal_low ideal_high ≡ task_around t stay
new-is t stay hold items loose base low high ideal_low ideal_high a b c d e f g h = rw (a, b, c, d, e, f, g, h) refl

pub new-refused : (t : Problem) (stay : List Placing) (new : Problem) (reason : TaskFault) → first_place_fault t [] stay ≡ None → new ≡ task_around t stay
    → task_fault new ≡ Some reason → transit_fault t stay ≡ Some (Task reason)
new-refused t stay new reason none is fault =
    ap (λ (o : Option TransitFault). option_or o (option_map Task (task_fault (task_around t stay)))) none
    ∙ ap (option_map Task) (ap task_fault (sym is) ∙ fault)

pub new-right : (t : Problem) (stay : List Placing) → first_place_fault t [] stay ≡ None → IsLawful (task_around t stay) → transit_fault t stay ≡ None
new-right t stay none lawful =
    ap (λ (o : Option TransitFault). option_or o (option_map Task (task_fault (task_around t stay)))) none
    ∙ ap (option_map Task) lawful.right
