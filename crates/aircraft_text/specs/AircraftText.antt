-- the text of an aircraft, line by line
use Rattle.std.specs.Prelude.{ℕ, Bool, true, false, if◌then◌else◌, List, [], ◌∷◌, ◌++◌, map, Option, Some, None, codes}
use Rattle.std.specs.List.{enumerate_from}
use Rattle.mass_units.specs.Spelling.{number_text, signed_text, index_text}
use Rattle.mass_units.specs.declared.chord.Chord.{Chord}
use Rattle.mass_limits.specs.declared.figures.Certified.{Certified}
use Rattle.payload.specs.declared.figures.Averages.{Averages}
use Rattle.payload.specs.declared.figures.Zone.{Zone}
use Rattle.envelope.specs.declared.corner.Corner.{Corner}
use Rattle.envelope.specs.Outline.{Outline}
use Rattle.fuel_table.specs.declared.row.FuelRow.{FuelRow}
use Rattle.hold_parts.specs.declared.lists.Fit.{Fit}
use Rattle.hold_parts.specs.declared.parts.Position.{Position}
use Rattle.hold_parts.specs.declared.parts.Combined.{Combined}
use Rattle.hold_parts.specs.declared.parts.Cumulative.{Cumulative}
use Rattle.hold_parts.specs.declared.parts.Lateral.{Lateral}
use Rattle.hold_limits.specs.Layout.{Layout, name_at}
use Rattle.aircraft_file.specs.Craft.{Craft}
use Rattle.text_lines.specs.Lines.{line_of, text_of}
use Rattle.text_lines.specs.WordRuns.{run_text, name_text}
use Rattle.aircraft_text.specs.Words.{percent_text}
use Rattle.aircraft_text.specs.Centre.{centre_at}

-- The figures -----------------------------------------------------------------------------------

-- `AIRCRAFT DAIAB`
abbrev pub registration_line : Craft → List ℕ
registration_line a = line_of (codes "AIRCRAFT" ∷ a.registration ∷ [])

-- `version V12M156`
abbrev pub version_line : Craft → List ℕ
version_line a = line_of (codes "version" ∷ a.version ∷ [])

-- `dry mass 42000 index 50.00000`
abbrev pub dry_line : Craft → List ℕ
dry_line a = line_of (codes "dry" ∷ codes "mass" ∷ number_text a.dry.mass.0 ∷ codes "index" ∷ index_text a.dry.index.0 ∷ [])

-- `chord k 50.00000 c 1000 reference 20000 lemac 18850 mac 4193`
abbrev pub chord_line : Chord → List ℕ
chord_line chord =
    line_of (codes "chord"
    ∷ codes "k" ∷ index_text chord.k.0
    ∷ codes "c" ∷ number_text chord.c
    ∷ codes "reference" ∷ signed_text chord.reference_mm
    ∷ codes "lemac" ∷ signed_text chord.lemac_mm
    ∷ codes "mac" ∷ number_text chord.mac_mm ∷ [])

-- `limits ramp 79000 zero_fuel 64500 take_off 78500 landing 66500`
abbrev pub limits_line : Certified → List ℕ
limits_line limits =
    line_of (codes "limits"
    ∷ codes "ramp" ∷ number_text limits.ramp.0
    ∷ codes "zero_fuel" ∷ number_text limits.zero_fuel.0
    ∷ codes "take_off" ∷ number_text limits.take_off.0
    ∷ codes "landing" ∷ number_text limits.landing.0 ∷ [])

-- `tolerance mass 500 index 0.50000`
abbrev pub tolerance_line : Craft → List ℕ
tolerance_line a =
    line_of (codes "tolerance" ∷ codes "mass" ∷ number_text a.tolerance.mass.0 ∷ codes "index" ∷ index_text a.tolerance.index.0 ∷ [])

-- `trim low 45.00000 high 55.00000`
abbrev pub trim_line : Craft → List ℕ
trim_line a = line_of (codes "trim" ∷ codes "low" ∷ index_text a.ideal.low.0 ∷ codes "high" ∷ index_text a.ideal.high.0 ∷ [])

-- `averages adult 84 child 35 infant 0 bag 15`
abbrev pub averages_line : Averages → List ℕ
averages_line averages =
    line_of (codes "averages"
    ∷ codes "adult" ∷ number_text averages.adult.0
    ∷ codes "child" ∷ number_text averages.child.0
    ∷ codes "infant" ∷ number_text averages.infant.0
    ∷ codes "bag" ∷ number_text averages.bag.0 ∷ [])

-- all figures that are not lists
abbrev pub figure_lines : Craft → List (List ℕ)
figure_lines a =
    registration_line a
    ∷ version_line a
    ∷ dry_line a
    ∷ chord_line a.chord
    ∷ limits_line a.certified
    ∷ tolerance_line a
    ∷ trim_line a
    ∷ averages_line a.averages
    ∷ []

-- The envelopes, the fuel table and the cabin -----------------------------------------------------

-- `envelope zero_fuel forward 42000 30.00000 7.83`: a corner's mass and index, and where the centre of gravity then lies
abbrev pub corner_line : Chord → List ℕ → List ℕ → Corner → List ℕ
corner_line chord envelope side corner =
    line_of (codes "envelope" ∷ envelope ∷ side ∷ number_text corner.mass.0 ∷ index_text corner.index.0 ∷ percent_text (centre_at chord corner) ∷ [])

-- the corners of an envelope: those of its forward side, and then those of its aft side
abbrev pub outline_lines : Chord → List ℕ → Outline → List (List ℕ)
outline_lines chord envelope outline =
    map (corner_line chord envelope (codes "forward")) outline.forward ++ map (corner_line chord envelope (codes "aft")) outline.aft

-- the three envelopes
abbrev pub envelope_lines : Craft → List (List ℕ)
envelope_lines a =
    outline_lines a.chord (codes "zero_fuel") a.zero_fuel
    ++ outline_lines a.chord (codes "take_off") a.take_off
    ++ outline_lines a.chord (codes "landing") a.landing

-- `fuel 3000 -0.01000`
abbrev pub fuel_line : FuelRow → List ℕ
fuel_line row = line_of (codes "fuel" ∷ number_text row.fuel.0 ∷ index_text row.index.0 ∷ [])

-- `zone 1 capacity 60 influence -123`: a zone with its number
abbrev pub zone_line : ℕ × Zone → List ℕ
zone_line (number, zone) =
    line_of (codes "zone" ∷ number_text number ∷ codes "capacity" ∷ number_text zone.capacity ∷ codes "influence" ∷ signed_text zone.influence ∷ [])

-- The hold --------------------------------------------------------------------------------------

-- ` AKH 1134`: a kind, and the greatest mass of one
abbrev pub fit_text : Fit → List ℕ
fit_text fit = line_of ([] ∷ fit.kind ∷ number_text fit.most.0 ∷ [])

-- what a position takes: loose load in bulk, or its kinds
abbrev pub taken_text : Position → List ℕ
taken_text q = if q.bulk then codes " bulk" else run_text fit_text q.fits

-- `position 1 11 compartment 1 influence -955 AKH 1134 PKC 1134`, or `position 7 51 compartment 5 influence 980 bulk`: a position with
-- its number
abbrev pub position_line : ℕ × Position → List ℕ
position_line (number, q) =
    line_of (codes "position" ∷ number_text number ∷ q.name
    ∷ codes "compartment" ∷ number_text q.compartment ∷ codes "influence" ∷ signed_text q.influence ∷ [])
    ++ taken_text q

-- `exclude 13 31`
abbrev pub exclude_line : List Position → ℕ × ℕ → List ℕ
exclude_line positions pair = line_of (codes "exclude" ∷ name_at positions pair.0 ∷ name_at positions pair.1 ∷ [])

-- `combined 1500 11 12`
abbrev pub combined_line : List Position → Combined → List ℕ
combined_line positions limit = line_of (codes "combined" ∷ number_text limit.most.0 ∷ []) ++ run_text (name_text positions) limit.places

-- the word for the end of the hold up to which a cumulative limit counts
abbrev pub end_word : Bool → List ℕ
end_word true = codes "forward"
end_word false = codes "aft"

-- `forward 12 2000` or `aft 41 1300`
abbrev pub cumulative_line : List Position → Cumulative → List ℕ
cumulative_line positions limit = line_of (end_word limit.forward ∷ name_at positions limit.place ∷ number_text limit.most.0 ∷ [])

-- the excluding pairs, the combined and the cumulative limits of a hold
abbrev pub limit_lines : Layout → List (List ℕ)
limit_lines hold =
    map (exclude_line hold.positions) hold.excludes
    ++ map (combined_line hold.positions) hold.combined
    ++ map (cumulative_line hold.positions) hold.cumulative

-- the word for the side of a position: whether it is on the right
abbrev pub side_word : Bool → List ℕ
side_word true = codes "right"
side_word false = codes "left"

-- `left 11` or `right 12`
abbrev pub side_line : List Position → ℕ × Bool → List ℕ
side_line positions side = line_of (side_word side.1 ∷ name_at positions side.0 ∷ [])

-- `lateral 1000`
abbrev pub lateral_line : ℕ → List ℕ
lateral_line most = line_of (codes "lateral" ∷ number_text most ∷ [])

-- the sides of the positions and the lateral limit, where there is one
abbrev pub lateral_lines : List Position → Option Lateral → List (List ℕ)
lateral_lines positions None = []
lateral_lines positions (Some lateral) = map (side_line positions) lateral.sides ++ (lateral_line lateral.most.0 ∷ [])

-- the positions, numbered from 1, and the limits of a hold
abbrev pub hold_lines : Layout → List (List ℕ)
hold_lines hold =
    map position_line (enumerate_from 1 hold.positions)
    ++ limit_lines hold
    ++ lateral_lines hold.positions hold.lateral

-- The text --------------------------------------------------------------------------------------

-- the figures, the envelopes, the fuel table, the zones, numbered from 1, and the hold
abbrev pub craft_lines : Craft → List (List ℕ)
craft_lines a =
    figure_lines a
    ++ envelope_lines a
    ++ map fuel_line a.fuel
    ++ map zone_line (enumerate_from 1 a.zones)
    ++ hold_lines a.hold

abbrev pub craft_text : Craft → List ℕ
craft_text a = text_of (craft_lines a)
