-- what is wrong with each key of an aircraft file by itself, in the order of the keys' numbers
use Rattle.std.specs.Prelude.{◌≡◌, ◌⊎◌, ℕ, suc, ◌+◌, true, false, pos, int_le, if◌then◌else◌, List, [], ◌∷◌, ◌++◌, codes, Option, Some, None, IfSome, Result, Ok, Err}
use Rattle.std.specs.Option.{option_or}
use Rattle.std.specs.Result.{result_err}
use Rattle.toml.specs.Data.{Data}
use Rattle.mass_units.specs.declared.Ticks.{Ticks}
use Rattle.hold_parts.specs.declared.parts.Position.{Position}
use Rattle.aircraft_file.specs.declared.fault.FileFault.{FileFault}
use Rattle.aircraft_file.specs.declared.fault.FileFault.TheVariants.{Missing, Wrong}
use Rattle.aircraft_file.specs.declared.side_keys.NamedSide.{NamedSide}
use Rattle.aircraft_file.specs.Spellings.{is_registration, is_version}
use Rattle.aircraft_file.specs.Document.{Contents, section_at, value_at, in_form, key, optional, ◌>>=◌}
use Rattle.aircraft_file.specs.Forms.{array_of, whole, signed, mass, text, index, position_of, exclude, combined, cumulative, named_side, fuel_row, corner}
use Rattle.aircraft_file.specs.Loading.{zones_of, apart}

-- what is wrong with each of some keys: nothing, or that it is missing, or that it is wrong
abbrev pub Findings : Type 0
Findings = List (Option FileFault)

-- what is wrong with the first key that has something wrong
abbrev pub first_of : Findings → Option FileFault
first_of [] = None
first_of (key ∷ keys) = option_or key (first_of keys)

-- the key with this number is missing, or it is wrong
abbrev pub IsOfKey : ℕ → FileFault → Type 0
IsOfKey number fault = (fault ≡ Missing number) ⊎ (fault ≡ Wrong number)

-- the findings are those of the keys from this number on, one after the other
abbrev pub AreFrom : ℕ → Findings → Type 0
AreFrom number [] = Unit {0}
AreFrom number (key ∷ keys) = IfSome key (IsOfKey number) × AreFrom (suc number) keys

-- the list that a key says, and an empty one where the key fails
abbrev pub list_of : {A : Type 0} → Result (List A) FileFault → List A
list_of (Ok list) = list
list_of (Err fault) = []

-- the keys 3 and 4
abbrev pub dry_keys : Contents → Findings
dry_keys dry = result_err (key 3 (mass 1 1000000) (codes "mass") dry) ∷ result_err (key 4 index (codes "index") dry) ∷ []

-- the keys 5 to 9
abbrev pub chord_keys : Contents → Findings
chord_keys chord =
    result_err (key 5 index (codes "k") chord)
    ∷ result_err (key 6 (whole 1 1000000) (codes "c") chord)
    ∷ result_err (key 7 (signed 100000) (codes "reference") chord)
    ∷ result_err (key 8 (signed 100000) (codes "lemac") chord)
    ∷ result_err (key 9 (whole 1 100000) (codes "mac") chord)
    ∷ []

-- the keys 10 to 13
abbrev pub certified_keys : Contents → Findings
certified_keys limits =
    result_err (key 10 (mass 1 1000000) (codes "ramp") limits)
    ∷ result_err (key 11 (mass 1 1000000) (codes "zero_fuel") limits)
    ∷ result_err (key 12 (mass 1 1000000) (codes "take_off") limits)
    ∷ result_err (key 13 (mass 1 1000000) (codes "landing") limits)
    ∷ []

-- an index, which key 15 wants to be not below zero
abbrev pub below_zero : Result Ticks FileFault → Option FileFault
below_zero (Err fault) = Some fault
below_zero (Ok at) = if int_le (pos 0) at.0 then None else Some (Wrong 15)

-- the keys 14 and 15
abbrev pub tolerance_keys : Contents → Findings
tolerance_keys tolerance = result_err (key 14 (mass 0 1000000) (codes "mass") tolerance) ∷ below_zero (key 15 index (codes "index") tolerance) ∷ []

-- the high end of the ideal band, which key 17 wants to be at least the low one
abbrev pub below_low : Result Ticks FileFault → Result Ticks FileFault → Option FileFault
below_low low (Err fault) = Some fault
below_low (Err fault) (Ok high) = None
below_low (Ok low) (Ok high) = if int_le low.0 high.0 then None else Some (Wrong 17)

-- the keys 16 and 17
abbrev pub ideal_keys : Contents → Findings
ideal_keys trim =
    result_err (key 16 index (codes "low") trim)
    ∷ below_low (key 16 index (codes "low") trim) (key 17 index (codes "high") trim)
    ∷ []

-- the keys 18 to 21
abbrev pub averages_keys : Contents → Findings
averages_keys averages =
    result_err (key 18 (mass 0 300) (codes "adult") averages)
    ∷ result_err (key 19 (mass 0 300) (codes "child") averages)
    ∷ result_err (key 20 (mass 0 300) (codes "infant") averages)
    ∷ result_err (key 21 (mass 0 300) (codes "bag") averages)
    ∷ []

-- the keys 1 to 21
abbrev pub figure_keys : Contents → Findings
figure_keys document =
    result_err (key 1 (text is_registration) (codes "registration") document)
    ∷ result_err (key 2 (text is_version) (codes "version") document)
    ∷ (dry_keys (section_at (codes "dry") document)
    ++ (chord_keys (section_at (codes "chord") document)
    ++ (certified_keys (section_at (codes "limits") document)
    ++ (tolerance_keys (section_at (codes "tolerance") document)
    ++ (ideal_keys (section_at (codes "trim") document)
    ++ averages_keys (section_at (codes "averages") document))))))

-- key 23, the positions
abbrev pub positions_key : Contents → Result (List Position) FileFault
positions_key document = key 23 (array_of position_of) (codes "position") document

-- the keys 24 to 27, in which names mean these positions
abbrev pub limit_keys : List Position → Contents → Findings
limit_keys positions hold =
    result_err (optional 24 (array_of (exclude positions)) (value_at (codes "exclude") hold))
    ∷ result_err (optional 25 (array_of (combined positions)) (value_at (codes "combined") hold))
    ∷ result_err (optional 26 (array_of (cumulative true positions)) (value_at (codes "forward") hold))
    ∷ result_err (optional 27 (array_of (cumulative false positions)) (value_at (codes "aft") hold))
    ∷ []

-- two keys of an envelope, this number and the next
abbrev pub outline_keys : ℕ → Contents → Findings
outline_keys number sides =
    result_err (key number (array_of corner) (codes "forward") sides)
    ∷ result_err (key (number + 1) (array_of corner) (codes "aft") sides)
    ∷ []

-- the keys 29 to 34
abbrev pub envelope_keys : Contents → Findings
envelope_keys envelope =
    outline_keys 29 (section_at (codes "zero_fuel") envelope)
    ++ (outline_keys 31 (section_at (codes "take_off") envelope)
    ++ outline_keys 33 (section_at (codes "landing") envelope))

-- key 36, the positions on the left, which it wants to be different ones
abbrev pub left_key : List Position → Contents → Result (List NamedSide) FileFault
left_key positions hold = optional 36 (array_of (named_side false positions)) (value_at (codes "left") hold) >>= apart 36

-- key 37, the positions on the right, which it wants to be different ones, and others than those on the left
abbrev pub right_key : List NamedSide → List Position → Contents → Result (List NamedSide) FileFault
right_key left positions hold =
    optional 37 (array_of (named_side true positions)) (value_at (codes "right") hold) >>= (λ right. apart 37 (left ++ right))

-- the keys 35 to 37; nothing is wrong with any of them where key 35 is absent
abbrev pub lateral_keys : List Position → Contents → Option Data → Findings
lateral_keys positions hold None = []
lateral_keys positions hold (Some d) =
    result_err (in_form 35 (mass 0 1000000 d))
    ∷ result_err (left_key positions hold)
    ∷ result_err (right_key (list_of (left_key positions hold)) positions hold)
    ∷ []

-- all keys
abbrev pub all_keys : Contents → Findings
all_keys document =
    let positions = list_of (positions_key document) in
    let hold = section_at (codes "hold") document in
    figure_keys document
    ++ (result_err (zones_of document) ∷ result_err (positions_key document) ∷ (limit_keys positions hold
    ++ (result_err (key 28 (array_of fuel_row) (codes "rows") (section_at (codes "fuel") document)) ∷ (envelope_keys (section_at (codes "envelope") document)
    ++ lateral_keys positions hold (value_at (codes "lateral") hold)))))

-- the values of all keys
abbrev pub key_values : Contents → List (Option Data)
key_values document =
    let dry = section_at (codes "dry") document in
    let chord = section_at (codes "chord") document in
    let limits = section_at (codes "limits") document in
    let tolerance = section_at (codes "tolerance") document in
    let trim = section_at (codes "trim") document in
    let averages = section_at (codes "averages") document in
    let hold = section_at (codes "hold") document in
    let fuel = section_at (codes "fuel") document in
    let envelope = section_at (codes "envelope") document in
    let zero_fuel = section_at (codes "zero_fuel") envelope in
    let take_off = section_at (codes "take_off") envelope in
    let landing = section_at (codes "landing") envelope in
    value_at (codes "registration") document
    ∷ value_at (codes "version") document
    ∷ value_at (codes "mass") dry
    ∷ value_at (codes "index") dry
    ∷ value_at (codes "k") chord
    ∷ value_at (codes "c") chord
    ∷ value_at (codes "reference") chord
    ∷ value_at (codes "lemac") chord
    ∷ value_at (codes "mac") chord
    ∷ value_at (codes "ramp") limits
    ∷ value_at (codes "zero_fuel") limits
    ∷ value_at (codes "take_off") limits
    ∷ value_at (codes "landing") limits
    ∷ value_at (codes "mass") tolerance
    ∷ value_at (codes "index") tolerance
    ∷ value_at (codes "low") trim
    ∷ value_at (codes "high") trim
    ∷ value_at (codes "adult") averages
    ∷ value_at (codes "child") averages
    ∷ value_at (codes "infant") averages
    ∷ value_at (codes "bag") averages
    ∷ value_at (codes "zone") document
    ∷ value_at (codes "position") document
    ∷ value_at (codes "exclude") hold
    ∷ value_at (codes "combined") hold
    ∷ value_at (codes "forward") hold
    ∷ value_at (codes "aft") hold
    ∷ value_at (codes "rows") fuel
    ∷ value_at (codes "forward") zero_fuel
    ∷ value_at (codes "aft") zero_fuel
    ∷ value_at (codes "forward") take_off
    ∷ value_at (codes "aft") take_off
    ∷ value_at (codes "forward") landing
    ∷ value_at (codes "aft") landing
    ∷ value_at (codes "lateral") hold
    ∷ value_at (codes "left") hold
    ∷ value_at (codes "right") hold
    ∷ []
