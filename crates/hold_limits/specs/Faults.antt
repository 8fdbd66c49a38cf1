-- what is wrong with a hold or with a task: the first kind of fault that there is, at its first place in its list
use Rattle.std.specs.Prelude.{◌≡◌, ℕ, zero, suc, ◌≤◌, ℤ, unsigned_abs, int_lt, Bool, false, not, ◌&&◌, ◌||◌, ◌==◌, nat_lt, nat_le, if◌then◌else◌, List, length, take, drop, zip, All, position, Option, Some, None, is_some, option_map, slice_get, IfSome}
use Rattle.std.specs.List.{list_any, list_all}
use Rattle.std.specs.Option.{option_or, option_map_or}
use Rattle.base_words.specs.Lists.{first_below, first_repeat}
use Rattle.mass_units.specs.declared.Kg.{Kg}
use Rattle.hold_parts.specs.declared.lists.Fit.{Fit}
use Rattle.hold_parts.specs.declared.parts.Position.{Position}
use Rattle.hold_parts.specs.declared.parts.Combined.{Combined}
use Rattle.hold_parts.specs.declared.parts.Cumulative.{Cumulative}
use Rattle.hold_parts.specs.declared.parts.Lateral.{Lateral}
use Rattle.hold_parts.specs.declared.parts.Item.{Item}
use Rattle.hold_parts.specs.declared.parts.Loose.{Loose}
use Rattle.hold_limits.specs.declared.fault.HoldFault.{HoldFault}
use Rattle.hold_limits.specs.declared.fault.HoldFault.TheVariants as hold
use Rattle.hold_limits.specs.declared.fault.TaskFault.{TaskFault}
use Rattle.hold_limits.specs.declared.fault.TaskFault.TheVariants as task
use Rattle.hold_parts.specs.Spellings.{IsKind}
use Rattle.hold_parts.specs.Repeats.{same_name, same_kind, same_id, same_position}
use Rattle.hold_limits.specs.Layout.{Layout}
use Rattle.hold_limits.specs.Lateral.{sides_of}
use Rattle.hold_limits.specs.Problem.{Problem}

-- the fault, where there is one
abbrev pub fault_if : {F : Type 0} → Bool → F → Option F
fault_if wrong fault = if wrong then Some fault else None

-- Of a hold -------------------------------------------------------------------------------------

abbrev pub has_wrong_number : List Position → Bool
has_wrong_number positions = (length positions == 0) || nat_lt 64 (length positions)

abbrev pub has_wrong_influence : Position → Bool
has_wrong_influence p = nat_lt 100000 (unsigned_abs p.influence)

-- a bulk position with fits, or another without any, with over 16, or with a kind twice
abbrev pub has_wrong_fits : Position → Bool
has_wrong_fits p =
    if p.bulk then not (length p.fits == 0)
    else (length p.fits == 0) || (nat_lt 16 (length p.fits) || is_some (first_repeat same_kind p.fits))

-- a greatest mass of 0 or over 20,000 kg
abbrev pub has_wrong_mass : Fit → Bool
has_wrong_mass fit = (fit.most.0 == 0) || nat_lt 20000 fit.most.0

abbrev pub has_wrong_fit_mass : Position → Bool
has_wrong_fit_mass p = list_any has_wrong_mass p.fits

abbrev pub has_too_many : List (ℕ × ℕ) → List Combined → List Cumulative → Bool
has_too_many excludes combined cumulative = nat_lt 256 (length excludes) || (nat_lt 64 (length combined) || nat_lt 128 (length cumulative))

abbrev pub is_unknown : List Position → ℕ → Bool
is_unknown positions q = nat_le (length positions) q

abbrev pub is_bulk : List Position → ℕ → Bool
is_bulk positions q = option_map_or (λ (p : Position). p.bulk) (slice_get positions q) false

-- the pair has equal or unknown positions, or a bulk one
abbrev pub has_wrong_positions : List Position → (ℕ × ℕ) → Bool
has_wrong_positions positions pair =
    (pair.0 == pair.1) || (is_unknown positions pair.0 || (is_unknown positions pair.1 || (is_bulk positions pair.0 || is_bulk positions pair.1)))

-- the same two positions, in either order
abbrev pub same_pair : (ℕ × ℕ) → (ℕ × ℕ) → Bool
same_pair a b = ((a.0 == b.0) && (a.1 == b.1)) || ((a.0 == b.1) && (a.1 == b.0))

-- the excluding pair has wrong positions, or is one of the earlier pairs
abbrev pub is_wrong_exclude : List Position → List (ℕ × ℕ) → (ℕ × ℕ) → Bool
is_wrong_exclude positions earlier pair = has_wrong_positions positions pair || list_any (λ other. same_pair other pair) earlier

abbrev pub is_wrong_exclude_at : List Position → List (ℕ × ℕ) → ℕ → Bool
is_wrong_exclude_at positions excludes at = option_map_or (is_wrong_exclude positions (take at excludes)) (slice_get excludes at) false

-- the place of the first wrong excluding pair
abbrev pub wrong_exclude : List Position → List (ℕ × ℕ) → Option ℕ
wrong_exclude positions excludes = first_below (is_wrong_exclude_at positions excludes) (length excludes)

-- each position is below the next
abbrev pub places_rise : List ℕ → Bool
places_rise places = list_all (λ (pair : ℕ × ℕ). nat_lt pair.0 pair.1) (zip places (drop 1 places))

-- a combined limit without positions, with positions that are not strictly rising, or with an unknown one
abbrev pub is_wrong_combined : List Position → Combined → Bool
is_wrong_combined positions limit = (length limit.places == 0) || (not (places_rise limit.places) || list_any (is_unknown positions) limit.places)

abbrev pub is_wrong_cumulative : List Position → Cumulative → Bool
is_wrong_cumulative positions limit = is_unknown positions limit.place

-- the position of the side before the one at this place, if there is one
abbrev pub position_before : List (ℕ × Bool) → ℕ → Option ℕ
position_before sides zero = None
position_before sides (suc at) = option_map (λ (side : ℕ × Bool). side.0) (slice_get sides at)

-- the side is of an unknown position, or of one that is not greater than that of the side before it
abbrev pub is_wrong_side : List Position → Option ℕ → (ℕ × Bool) → Bool
is_wrong_side positions before side = is_unknown positions side.0 || option_map_or (λ q. nat_le side.0 q) before false

abbrev pub is_wrong_side_at : List Position → List (ℕ × Bool) → ℕ → Bool
is_wrong_side_at positions sides at = option_map_or (is_wrong_side positions (position_before sides at)) (slice_get sides at) false

-- the place of the first wrong side
abbrev pub wrong_side : List Position → List (ℕ × Bool) → Option ℕ
wrong_side positions sides = first_below (is_wrong_side_at positions sides) (length sides)

-- the fault of the positions: the first kind that applies, at its first place
abbrev pub position_fault : List Position → Option HoldFault
position_fault positions =
    option_or (fault_if (has_wrong_number positions) (hold.Positions (length positions)))
    (option_or (option_map hold.SameName (first_repeat same_name positions))
    (option_or (option_map hold.Influence (position has_wrong_influence positions))
    (option_or (option_map hold.Fits (position has_wrong_fits positions))
    (option_map hold.FitMass (position has_wrong_fit_mass positions)))))

-- the fault of the limits on the positions, likewise
abbrev pub limit_fault : Layout → Option HoldFault
limit_fault h =
    option_or (fault_if (has_too_many h.excludes h.combined h.cumulative) hold.TooMany)
    (option_or (option_map hold.Exclude (wrong_exclude h.positions h.excludes))
    (option_or (option_map hold.Combined (position (is_wrong_combined h.positions) h.combined))
    (option_map hold.Cumulative (position (is_wrong_cumulative h.positions) h.cumulative))))

-- the fault of the sides
abbrev pub side_fault : Layout → Option HoldFault
side_fault h = option_map hold.Side (wrong_side h.positions (sides_of h))

-- the fault of a hold: that of its positions, else that of its limits, else that of its sides
abbrev pub hold_fault : Layout → Option HoldFault
hold_fault h = option_or (position_fault h.positions) (option_or (limit_fault h) (side_fault h))

-- what the reader of a hold makes sure of, and no fault tests: compartments of one digit, kinds of three capitals, greatest masses of nine digits
pub record IsWellSpelled (h : Layout) : Type 0 where
  pub compartments : All (λ (p : Position). p.compartment ≤ 9) h.positions
  pub kinds : All (λ (p : Position). All (λ (fit : Fit). IsKind fit.kind) p.fits) h.positions
  pub combined : All (λ (limit : Combined). limit.most.0 ≤ 999999999) h.combined
  pub cumulative : All (λ (limit : Cumulative). limit.most.0 ≤ 999999999) h.cumulative
  pub lateral : IfSome h.lateral (λ (limit : Lateral). limit.most.0 ≤ 999999999)

-- Of a task -------------------------------------------------------------------------------------

abbrev pub is_over_mass : Kg → Bool
is_over_mass mass = nat_lt 20000 mass.0

abbrev pub is_too_heavy : Item → Bool
is_too_heavy item = is_over_mass item.mass

-- the fault of the offer: the first kind that applies, at its first place
abbrev pub item_fault : List Item → Option TaskFault
item_fault items =
    option_or (fault_if (nat_lt 60 (length items)) task.TooManyItems)
    (option_or (option_map task.DuplicateId (first_repeat same_id items))
    (option_map task.ItemTooHeavy (position is_too_heavy items)))

abbrev pub is_loose_misplaced : List Position → Loose → Bool
is_loose_misplaced positions load = not (is_bulk positions load.position)

abbrev pub is_loose_too_heavy : Loose → Bool
is_loose_too_heavy load = is_over_mass load.mass

-- the fault of the loose loads, likewise
abbrev pub loose_fault : List Position → List Loose → Option TaskFault
loose_fault positions loose =
    option_or (option_map task.LooseNotBulk (position (is_loose_misplaced positions) loose))
    (option_or (option_map task.LooseTwice (first_repeat same_position loose))
    (option_map task.LooseTooHeavy (position is_loose_too_heavy loose)))

abbrev pub is_over_index : ℤ → Bool
is_over_index index = nat_lt 1000000000 (unsigned_abs index)

-- which of base, window and ideal band is the first out of range, from 1 to 5, or 6 for a band whose ends are crossed
abbrev pub range_fault : ℤ → ℤ → ℤ → ℤ → ℤ → Option ℕ
range_fault base low high ideal_low ideal_high =
    option_or (fault_if (is_over_index base) 1)
    (option_or (fault_if (is_over_index low) 2)
    (option_or (fault_if (is_over_index high) 3)
    (option_or (fault_if (is_over_index ideal_low) 4)
    (option_or (fault_if (is_over_index ideal_high) 5)
    (fault_if (int_lt ideal_high ideal_low) 6)))))

-- the fault of a task over a lawful hold: that of its offer, else of its loose loads, else of its indices
abbrev pub task_fault : Problem → Option TaskFault
task_fault t =
    option_or (item_fault t.items)
    (option_or (loose_fault t.hold.positions t.loose)
    (option_map task.Range (range_fault t.base t.low t.high t.ideal_low t.ideal_high)))

-- a hold, and a task, as their constructors make them
pub record IsLawfulHold (h : Layout) : Type 0 where
  pub right : hold_fault h ≡ None
  pub spelled : IsWellSpelled h

pub record IsLawful (t : Problem) : Type 0 where
  pub hold : IsLawfulHold t.hold
  pub right : task_fault t ≡ None
