-- an aircraft read from the values of its keys
use Rattle.std.proofs.Common.{◌≡◌, ℕ, zero, suc, ◌+◌, true, false, pos, int_le, nat_le, ◌&&◌, if◌then◌else◌, List, [], ◌∷◌, ◌++◌, length, Option, Some, None, Result, Ok, Err, ap}
use Rattle.toml.specs.Data.{Data}
use Rattle.mass_units.specs.declared.chord.Chord.{Chord}
use Rattle.mass_units.specs.declared.Band.{Band}
use Rattle.mass_limits.specs.declared.figures.Certified.{Certified}
use Rattle.payload.specs.declared.figures.Averages.{Averages}
use Rattle.payload.specs.declared.figures.Zone.{Zone}
use Rattle.envelope.specs.Outline.{Outline}
use Rattle.hold_parts.specs.declared.parts.Position.{Position}
use Rattle.hold_parts.specs.declared.parts.Lateral.{Lateral}
use Rattle.hold_limits.specs.Layout.{Layout}
use Rattle.aircraft_file.specs.declared.fault.FileFault.{FileFault}
use Rattle.aircraft_file.specs.declared.fault.FileFault.TheVariants.{Wrong}
use Rattle.aircraft_file.specs.declared.figures.Figures.{Figures}
use Rattle.aircraft_file.specs.declared.figures.Dry.{Dry}
use Rattle.aircraft_file.specs.declared.figures.Tolerance.{Tolerance}
use Rattle.aircraft_file.specs.declared.parts.Envelopes.{Envelopes}
use Rattle.aircraft_file.specs.declared.side_keys.NamedSide.{NamedSide}
use Rattle.aircraft_file.specs.Spellings.{is_registration, is_version}
use Rattle.aircraft_file.specs.Figures.{figures_with}
use Rattle.aircraft_file.specs.Document.{Contents, required, optional, in_form, ◌>>=◌}
use Rattle.aircraft_file.specs.Forms.{array_of, whole, signed, mass, text, index, zone, position_of, exclude, combined, cumulative, named_side, fuel_row, corner}
use Rattle.aircraft_file.specs.Loading.{LimitLists, layout_with, apart, in_order, under}
use Rattle.aircraft_file.specs.Craft.{Craft, craft_with, craft_in}
use Rattle.aircraft_file.specs.Keys.{key_values}

abbrev nth : ℕ → List (Option Data) → Option Data
nth n [] = None
nth zero (v ∷ vs) = v
nth (suc n) (v ∷ vs) = nth n vs

abbrev dry_from : List (Option Data) → Result Dry FileFault
dry_from vs = do
  mass ← required 3 (mass 1 1000000) (nth 2 vs)
  at ← required 4 index (nth 3 vs)
  Ok (record { mass = mass; index = at })

abbrev chord_from : List (Option Data) → Result Chord FileFault
chord_from vs = do
  k ← required 5 index (nth 4 vs)
  c ← required 6 (whole 1 1000000) (nth 5 vs)
  reference ← required 7 (signed 100000) (nth 6 vs)
  lemac ← required 8 (signed 100000) (nth 7 vs)
  mac ← required 9 (whole 1 100000) (nth 8 vs)
  Ok (record { k = k; c = c; reference_mm = reference; lemac_mm = lemac; mac_mm = mac })

abbrev certified_from : List (Option Data) → Result Certified FileFault
certified_from vs = do
  ramp ← required 10 (mass 1 1000000) (nth 9 vs)
  zero_fuel ← required 11 (mass 1 1000000) (nth 10 vs)
  take_off ← required 12 (mass 1 1000000) (nth 11 vs)
  landing ← required 13 (mass 1 1000000) (nth 12 vs)
  Ok (record { ramp = ramp; zero_fuel = zero_fuel; take_off = take_off; landing = landing })

abbrev tolerance_from : List (Option Data) → Result Tolerance FileFault
tolerance_from vs = do
  mass ← required 14 (mass 0 1000000) (nth 13 vs)
  at ← required 15 index (nth 14 vs)
  if int_le (pos 0) at.0 then Ok (record { mass = mass; index = at }) else Err (Wrong 15)

abbrev ideal_from : List (Option Data) → Result Band FileFault
ideal_from vs = do
  low ← required 16 index (nth 15 vs)
  high ← required 17 index (nth 16 vs)
  if int_le low.0 high.0 then Ok (record { low = low; high = high }) else Err (Wrong 17)

abbrev averages_from : List (Option Data) → Result Averages FileFault
averages_from vs = do
  adult ← required 18 (mass 0 300) (nth 17 vs)
  child ← required 19 (mass 0 300) (nth 18 vs)
  infant ← required 20 (mass 0 300) (nth 19 vs)
  bag ← required 21 (mass 0 300) (nth 20 vs)
  Ok (record { adult = adult; child = child; infant = infant; bag = bag })

abbrev figures_from : List (Option Data) → Result Figures FileFault
figures_from vs = do
  registration ← required 1 (text is_registration) (nth 0 vs)
  version ← required 2 (text is_version) (nth 1 vs)
  dry ← dry_from vs
  chord ← chord_from vs
  certified ← certified_from vs
  tolerance ← tolerance_from vs
  ideal ← ideal_from vs
  averages ← averages_from vs
  Ok (figures_with registration version dry chord certified tolerance ideal averages)

abbrev zones_from : List (Option Data) → Result (List Zone) FileFault
zones_from vs = do
  zones ← required 22 (array_of zone) (nth 21 vs)
  if nat_le 1 (length zones) && nat_le (length zones) 16 then Ok zones else Err (Wrong 22)

abbrev limits_from : List (Option Data) → List Position → Result LimitLists FileFault
limits_from vs positions = do
  excludes ← optional 24 (array_of (exclude positions)) (nth 23 vs)
  combined ← optional 25 (array_of (combined positions)) (nth 24 vs)
  forward ← optional 26 (array_of (cumulative true positions)) (nth 25 vs)
  aft ← optional 27 (array_of (cumulative false positions)) (nth 26 vs)
  Ok (record { excludes = excludes; combined = combined; cumulative = forward ++ aft })

abbrev hold_from : List (Option Data) → Result Layout FileFault
hold_from vs = do
  positions ← required 23 (array_of position_of) (nth 22 vs)
  limits ← limits_from vs positions
  Ok (layout_with positions limits)

abbrev outline_from : ℕ → Option Data → Option Data → Result Outline FileFault
outline_from number one other = do
  forward ← required number (array_of corner) one
  aft ← required (number + 1) (array_of corner) other
  Ok (record { forward = forward; aft = aft })

abbrev envelopes_from : List (Option Data) → Result Envelopes FileFault
envelopes_from vs = do
  zero_fuel ← outline_from 29 (nth 28 vs) (nth 29 vs)
  take_off ← outline_from 31 (nth 30 vs) (nth 31 vs)
  landing ← outline_from 33 (nth 32 vs) (nth 33 vs)
  Ok (record { zero_fuel = zero_fuel; take_off = take_off; landing = landing })

abbrev sides_from : List (Option Data) → List Position → Result (List NamedSide) FileFault
sides_from vs positions = do
  named ← optional 36 (array_of (named_side false positions)) (nth 35 vs)
  left ← apart 36 named
  right ← optional 37 (array_of (named_side true positions)) (nth 36 vs)
  apart 37 (left ++ right)

abbrev lateral_from : List (Option Data) → List Position → Option Data → Result (Option Lateral) FileFault
lateral_from vs positions None = Ok None
lateral_from vs positions (Some d) = do
  most ← in_form 35 (mass 0 1000000 d)
  sides ← sides_from vs positions
  Ok (Some (record { most = most; sides = in_order sides (length positions) }))

abbrev craft_from : List (Option Data) → Result Craft FileFault
craft_from vs = do
  figures ← figures_from vs
  zones ← zones_from vs
  hold ← hold_from vs
  fuel ← required 28 (array_of fuel_row) (nth 27 vs)
  envelopes ← envelopes_from vs
  lateral ← lateral_from vs hold.positions (nth 34 vs)
  Ok (craft_with figures zones (under lateral hold) fuel envelopes)

-- no other key matters
pub keys_alone : (a b : Contents) → key_values a ≡ key_values b → craft_in a ≡ craft_in b
keys_alone a b same = ap craft_from same
