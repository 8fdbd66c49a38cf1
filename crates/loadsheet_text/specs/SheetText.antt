-- the text of a loadsheet, line by line
use Rattle.std.specs.Prelude.{ℕ, ◌+◌, ℤ, List, [], ◌∷◌, ◌++◌, map, get_or, pos, codes}
use Rattle.mass_units.specs.Spelling.{number_text, signed_text, short_index_text, with_sign, hundredths_text}
use Rattle.mass_limits.specs.declared.figures.Limiting.{Limiting}
use Rattle.mass_limits.specs.declared.figures.Limiting.TheVariants.{ZeroFuel, TakeOff, Landing}
use Rattle.text_lines.specs.Lines.{line_of, text_of}
use Rattle.flight_state.specs.declared.leg.Leg.{Leg}
use Rattle.flight_state.specs.declared.change.Lmc.{Lmc}
use Rattle.flight_state.specs.declared.change.Lmc.TheVariants.{Cabin, Loose}
use Rattle.last_minute.specs.declared.sheet.Sheet.{Sheet}

-- Lines -----------------------------------------------------------------------------------------

-- `XX210/12.DAIAB.FRA.ARN`
abbrev pub leg_line : Leg → List ℕ
leg_line leg =
    leg.flight ++ codes "/" ++ leg.day ++ codes "." ++ leg.registration ++ codes "." ++ leg.origin ++ codes "." ++ leg.destination

-- `EDNO 7`: what a number is, and the number
abbrev pub number_line : List ℕ → ℕ → List ℕ
number_line what n = line_of (what ∷ number_text n ∷ [])

-- `PAX 130/3`: adults and children, and then infants
abbrev pub passenger_line : Sheet → List ℕ
passenger_line s = codes "PAX " ++ number_text (s.adults + s.children) ++ codes "/" ++ number_text s.infants

-- `ZERO FUEL WEIGHT 54580 MAX 62500 L`: a mass, its limit, and the mark of the limiting one
abbrev pub limited_line : List ℕ → ℕ → ℕ → List ℕ → List ℕ
limited_line what mass most mark =
    line_of (what ∷ number_text mass ∷ codes "MAX" ∷ number_text most ∷ []) ++ mark

-- `UNDERLOAD 7920`
abbrev pub underload_line : ℤ → List ℕ
underload_line kg = line_of (codes "UNDERLOAD" ∷ signed_text kg ∷ [])

-- `DOI 50.00 LIZFW 51.66 LITOW 50.45 LILAW 51.65`: the indices with two decimals
abbrev pub index_line : ℤ → ℤ → ℤ → ℤ → List ℕ
index_line dry zero_fuel take_off landing =
    line_of (codes "DOI" ∷ short_index_text dry ∷ codes "LIZFW" ∷ short_index_text zero_fuel
    ∷ codes "LITOW" ∷ short_index_text take_off ∷ codes "LILAW" ∷ short_index_text landing ∷ [])

-- hundredths of a percent with two decimals
abbrev pub percent_text : ℤ → List ℕ
percent_text z = with_sign hundredths_text z

-- `MACZFW 25.79 MACTOW 25.23 MACLAW 25.74`: percent of the mean aerodynamic chord, of zero fuel, of take-off and of landing
abbrev pub chord_line : List ℤ → List ℕ
chord_line centres =
    line_of (codes "MACZFW" ∷ percent_text (get_or centres 0 (pos 0))
    ∷ codes "MACTOW" ∷ percent_text (get_or centres 1 (pos 0))
    ∷ codes "MACLAW" ∷ percent_text (get_or centres 2 (pos 0)) ∷ [])

-- `LMC ZONE 2 5/0/0`: a zone, and how many adults, children and infants more; `LMC BULK 51 500/0`: a position, and by what
-- mass and how many pieces more
abbrev pub change_line : Lmc → List ℕ
change_line (Cabin zone adults children infants) =
    codes "LMC ZONE " ++ number_text zone ++ codes " " ++ signed_text adults ++ codes "/" ++ signed_text children ++ codes "/" ++ signed_text infants
change_line (Loose position mass pieces) =
    codes "LMC BULK " ++ position ++ codes " " ++ signed_text mass ++ codes "/" ++ signed_text pieces

-- the mark behind the limit of a mass, where that is the limiting one, and nothing elsewhere
abbrev pub limit_mark : Limiting → Limiting → List ℕ
limit_mark ZeroFuel ZeroFuel = codes " L"
limit_mark TakeOff TakeOff = codes " L"
limit_mark Landing Landing = codes " L"
limit_mark mass limiting = []

-- Sections --------------------------------------------------------------------------------------

-- which flight it is, and who flies
abbrev pub flight_lines : Sheet → List (List ℕ)
flight_lines s =
    codes "LOADSHEET"
    ∷ leg_line s.leg
    ∷ number_line (codes "EDNO") s.edition
    ∷ passenger_line s
    ∷ []

-- what it carries
abbrev pub load_lines : Sheet → List (List ℕ)
load_lines s =
    number_line (codes "CABIN") s.cabin_mass.0
    ∷ number_line (codes "CONTAINERS") s.container_mass.0
    ∷ number_line (codes "LOOSE") s.loose_mass.0
    ∷ number_line (codes "TRAFFIC LOAD") (s.cabin_mass.0 + s.container_mass.0 + s.loose_mass.0)
    ∷ []

-- its masses with their limits
abbrev pub mass_lines : Sheet → List (List ℕ)
mass_lines s =
    number_line (codes "DRY OPERATING WEIGHT") s.dry.mass.0
    ∷ limited_line (codes "ZERO FUEL WEIGHT") s.balance.masses.zero_fuel.0 s.max_zero_fuel.0 (limit_mark ZeroFuel s.balance.underload.limiting)
    ∷ number_line (codes "TAKE OFF FUEL") s.fuel.take_off.0
    ∷ limited_line (codes "TAKE OFF WEIGHT") s.balance.masses.take_off.0 s.regulated.take_off.0 (limit_mark TakeOff s.balance.underload.limiting)
    ∷ number_line (codes "TRIP FUEL") s.fuel.trip.0
    ∷ limited_line (codes "LANDING WEIGHT") s.balance.masses.landing.0 s.regulated.landing.0 (limit_mark Landing s.balance.underload.limiting)
    ∷ []

-- its balance
abbrev pub balance_lines : Sheet → List (List ℕ)
balance_lines s =
    underload_line s.balance.underload.kg
    ∷ index_line s.dry.index.0 s.balance.zero_fuel.0 s.balance.take_off.0 s.balance.landing.0
    ∷ chord_line s.mac
    ∷ []

-- a loadsheet: the flight, its load, its masses, its balance, and its late changes in their order
abbrev pub sheet_lines : Sheet → List (List ℕ)
sheet_lines s =
    flight_lines s ++ load_lines s ++ mass_lines s ++ balance_lines s ++ map change_line s.lmcs ++ (codes "END" ∷ [])

abbrev pub sheet_text : Sheet → List ℕ
sheet_text s = text_of (sheet_lines s)
