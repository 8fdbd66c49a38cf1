-- what each key of an aircraft file is called, and what is wanted there
use Rattle.std.specs.Prelude.{ℕ, List, [], ◌∷◌, codes, slice_get}
use Rattle.std.specs.Option.{option_map_or}

-- a mass
abbrev pub mass : List ℕ
mass = codes "a whole number of kilograms from 1 to 1000000"

-- a mass that may be nothing
abbrev pub small_mass : List ℕ
small_mass = codes "a whole number of kilograms from 0 to 1000000"

-- an index
abbrev pub index : List ℕ
index = codes "an index as text with five decimals, from -10000.00000 to 10000.00000"

-- a place on the length of the aircraft
abbrev pub station : List ℕ
station = codes "a whole number of millimetres from -100000 to 100000"

-- the average mass of a passenger or a bag
abbrev pub average : List ℕ
average = codes "a whole number of kilograms from 0 to 300"

-- the corners of a side of an envelope, and the rows of a fuel table
abbrev pub pairs : List ℕ
pairs = codes "a list of pairs, each a mass in kilograms and an index as text with five decimals"

-- cumulative limits
abbrev pub ends : List ℕ
ends = codes "a list of pairs, each the name of a position and the most kilograms up to that end"

-- the keys in the order of their numbers, which count from 1: the full name, and what is wanted there
abbrev pub keys : List (List ℕ × List ℕ)
keys =
    ([], [])
    ∷ (codes "registration", codes "a text of 2 to 10 capitals and digits")
    ∷ (codes "version", codes "a text of 1 to 12 capitals and digits")
    ∷ (codes "dry.mass", mass)
    ∷ (codes "dry.index", index)
    ∷ (codes "chord.k", index)
    ∷ (codes "chord.c", codes "a whole number of kilogram metres from 1 to 1000000")
    ∷ (codes "chord.reference", station)
    ∷ (codes "chord.lemac", station)
    ∷ (codes "chord.mac", codes "a whole number of millimetres from 1 to 100000")
    ∷ (codes "limits.ramp", mass)
    ∷ (codes "limits.zero_fuel", mass)
    ∷ (codes "limits.take_off", mass)
    ∷ (codes "limits.landing", mass)
    ∷ (codes "tolerance.mass", small_mass)
    ∷ (codes "tolerance.index", codes "an index as text with five decimals, from 0.00000 to 10000.00000")
    ∷ (codes "trim.low", index)
    ∷ (codes "trim.high", codes "an index as text with five decimals, from that of trim.low to 10000.00000")
    ∷ (codes "averages.adult", average)
    ∷ (codes "averages.child", average)
    ∷ (codes "averages.infant", average)
    ∷ (codes "averages.bag", average)
    ∷ (codes "zone", codes "1 to 16 tables, each with capacity, 0 to 999 seats, and influence, -100000 to 100000 ticks a kilogram")
    ∷ (codes "position", codes "a list of tables, each with name, compartment, influence in ticks a kilogram, and bulk = true or fits, pairs of a kind and its most kilograms")
    ∷ (codes "hold.exclude", codes "a list of pairs of names of positions")
    ∷ (codes "hold.combined", codes "a list of lists, each the most kilograms and then one name of a position or more")
    ∷ (codes "hold.forward", ends)
    ∷ (codes "hold.aft", ends)
    ∷ (codes "fuel.rows", pairs)
    ∷ (codes "envelope.zero_fuel.forward", pairs)
    ∷ (codes "envelope.zero_fuel.aft", pairs)
    ∷ (codes "envelope.take_off.forward", pairs)
    ∷ (codes "envelope.take_off.aft", pairs)
    ∷ (codes "envelope.landing.forward", pairs)
    ∷ (codes "envelope.landing.aft", pairs)
    ∷ (codes "hold.lateral", small_mass)
    ∷ (codes "hold.left", codes "a list of names of positions, each named once")
    ∷ (codes "hold.right", codes "a list of names of positions, each named once and none of them on the left")
    ∷ []

-- the full name of the key with this number; none has another number
abbrev pub key_name : ℕ → List ℕ
key_name number = option_map_or (λ (key : List ℕ × List ℕ). key.0) (slice_get keys number) []

-- what is wanted at the key with this number
abbrev pub wanted : ℕ → List ℕ
wanted number = option_map_or (λ (key : List ℕ × List ℕ). key.1) (slice_get keys number) []
