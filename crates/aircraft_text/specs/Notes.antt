-- what in a lawful aircraft is hardly meant
use Rattle.std.specs.Prelude.{ℕ, nat_lt, Bool, false, List, [], ◌∷◌, codes, filter}
use Rattle.std.specs.Option.{option_map_or}
use Rattle.mass_units.specs.declared.Kg.{Kg}
use Rattle.envelope.specs.Outline.{Outline, first_mass}
use Rattle.aircraft_file.specs.Craft.{Craft}
use Rattle.aircraft_text.specs.declared.remarks.Phase.TheVariants.{ZeroFuel, TakeOff, Landing}
use Rattle.aircraft_text.specs.declared.remarks.Note.{Note}
use Rattle.aircraft_text.specs.declared.remarks.Note.TheVariants.{RampBelowTakeOff, ZeroFuelAboveTakeOff, Unmet}

-- the first mass of the envelope is above the mass
abbrev pub begins_above : Kg → Outline → Bool
begins_above mass outline = option_map_or (λ first. nat_lt mass.0 first) (first_mass outline.forward) false

-- the note is to be made of the aircraft
abbrev pub applies : Craft → Note → Bool
applies a RampBelowTakeOff = nat_lt a.certified.ramp.0 a.certified.take_off.0
applies a ZeroFuelAboveTakeOff = nat_lt a.certified.take_off.0 a.certified.zero_fuel.0
applies a (Unmet ZeroFuel) = begins_above a.certified.zero_fuel a.zero_fuel
applies a (Unmet TakeOff) = begins_above a.certified.take_off a.take_off
applies a (Unmet Landing) = begins_above a.certified.landing a.landing

-- every note, in the order in which they are made
abbrev pub all_notes : List Note
all_notes = RampBelowTakeOff ∷ ZeroFuelAboveTakeOff ∷ Unmet ZeroFuel ∷ Unmet TakeOff ∷ Unmet Landing ∷ []

-- the notes on an aircraft
abbrev pub notes_of : Craft → List Note
notes_of a = filter (applies a) all_notes

-- a note in words
abbrev pub note_text : Note → List ℕ
note_text RampBelowTakeOff = codes "ramp limit below the take-off limit"
note_text ZeroFuelAboveTakeOff = codes "zero-fuel limit above the take-off limit"
note_text (Unmet ZeroFuel) = codes "no mass within the limits meets envelope zero_fuel"
note_text (Unmet TakeOff) = codes "no mass within the limits meets envelope take_off"
note_text (Unmet Landing) = codes "no mass within the limits meets envelope landing"
