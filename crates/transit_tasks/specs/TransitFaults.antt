-- what is wrong with what stays: of the first wrong place, the first reason
use Rattle.std.specs.Prelude.{ℕ, Bool, true, false, not, ◌==◌, if◌then◌else◌, List, [], ◌∷◌, ◌++◌, length, Option, None, is_some, option_map, bytes_eq}
use Rattle.std.specs.List.{list_any}
use Rattle.std.specs.Option.{option_or, option_map_or}
use Rattle.hold_parts.specs.declared.parts.Item.{Item}
use Rattle.hold_parts.specs.declared.parts.Loose.{Loose}
use Rattle.hold_parts.specs.Names.{number_named}
use Rattle.hold_limits.specs.Enumeration.{exclude, is_accepted}
use Rattle.hold_limits.specs.Faults.{fault_if, is_bulk, task_fault}
use Rattle.hold_limits.specs.Problem.{Problem}
use Rattle.ldm_cpm.specs.Messages.{Placing}
use Rattle.transit_tasks.specs.NewTask.{task_around}
use Rattle.transit_tasks.specs.Staying.{place_number, standing}
use Rattle.transit_tasks.specs.declared.fault.TransitFault.{TransitFault}
use Rattle.transit_tasks.specs.declared.fault.TransitFault.TheVariants.{Place, NoFit, Clash, Offered, BulkShared, Task}

-- with this number a container would stand on a bulk position, or a loose load lie on another
abbrev pub is_wrong_kind : Problem → Placing → ℕ → Bool
is_wrong_kind t p number = if is_some p.id then is_bulk t.hold.positions number else not (is_bulk t.hold.positions number)

-- no position has the name, or a container stands on a bulk position, or a loose load lies on another
abbrev pub is_misplaced : Problem → Placing → Bool
is_misplaced t p = option_map_or (is_wrong_kind t p) (number_named t.hold.positions p.name) true

-- the position does not accept the container, by its kind or its mass
abbrev pub is_unfit : Problem → Placing → Bool
is_unfit t p = option_map_or (λ (id : List ℕ). not (is_accepted t.hold (standing t.hold.positions p id))) p.id false

-- the position is excluded by that of an earlier place
abbrev pub clashes : Problem → List Placing → Placing → Bool
clashes t earlier p = list_any (λ (e : Placing). exclude t.hold (place_number t.hold.positions e) (place_number t.hold.positions p)) earlier

-- the task offers a container of the same identity
abbrev pub is_offered : Problem → Placing → Bool
is_offered t p = option_map_or (λ (id : List ℕ). list_any (λ (item : Item). bytes_eq item.id id) t.items) p.id false

-- a loose load, where the task has one on the position
abbrev pub shares_bulk : Problem → Placing → Bool
shares_bulk t p = if is_some p.id then false else list_any (λ (load : Loose). load.position == place_number t.hold.positions p) t.loose

-- the fault of a place behind these earlier ones
abbrev pub place_fault : Problem → List Placing → Placing → Option TransitFault
place_fault t earlier p =
    option_or (fault_if (is_misplaced t p) (Place (length earlier)))
    (option_or (fault_if (is_unfit t p) (NoFit (length earlier)))
    (option_or (fault_if (clashes t earlier p) (Clash (length earlier)))
    (option_or (fault_if (is_offered t p) (Offered (length earlier)))
    (fault_if (shares_bulk t p) (BulkShared (length earlier))))))

-- the fault of the first wrong place among those behind these earlier ones
abbrev pub first_place_fault : Problem → List Placing → List Placing → Option TransitFault
first_place_fault t earlier [] = None
first_place_fault t earlier (p ∷ later) = option_or (place_fault t earlier p) (first_place_fault t (earlier ++ p ∷ []) later)

-- the fault of the places, else that of the task around them: a loose load that is too heavy
abbrev pub transit_fault : Problem → List Placing → Option TransitFault
transit_fault t stay = option_or (first_place_fault t [] stay) (option_map Task (task_fault (task_around t stay)))
