-- which flight a request is about, and the limits of what it tells
use Rattle.std.specs.Prelude.{ℕ, ◌≤◌, unsigned_abs, List, length, All}
use Rattle.trim.specs.Limits.{HasFewPassengers}
use Rattle.flight_state.specs.Effective.{IsLooseWithin}
use Rattle.flight_state.specs.Legs.{key_of}
use Rattle.flight_history.specs.declared.request.FigurePart.{FigurePart}
use Rattle.flight_history.specs.declared.request.FigurePart.TheVariants as part
use Rattle.flight_history.specs.declared.request.Request.{Request}
use Rattle.flight_history.specs.declared.request.Request.TheVariants as asked

-- the key of the flight that a request is about
abbrev pub key_asked : Request → List ℕ
key_asked (asked.NewFlight leg) = key_of leg
key_asked (asked.Set key edition told) = key
key_asked (asked.Take key edition) = key
key_asked (asked.Install key edition plan) = key
key_asked (asked.InstallBest key edition plan) = key
key_asked (asked.Release key edition) = key
key_asked (asked.Late key edition change) = key
key_asked (asked.Reopen key edition) = key
key_asked (asked.Depart key edition) = key
key_asked (asked.Show key what) = key

-- the figures that a request tells are within the limits that no refusal tests
abbrev pub IsPartWithin : FigurePart → Type 0
IsPartWithin (part.Dry dry) =
    (1 ≤ dry.mass.0) × (dry.mass.0 ≤ 1000000) × (unsigned_abs dry.index.0 ≤ 1000000000) × (dry.cockpit ≤ 99) × (dry.attendants ≤ 99)
IsPartWithin (part.Fuel fuel) = (fuel.taxi.0 ≤ 1000000) × (fuel.take_off.0 ≤ 1000000) × (fuel.trip.0 ≤ fuel.take_off.0)
IsPartWithin (part.Limits limits) = (limits.take_off.0 ≤ 1000000) × (limits.landing.0 ≤ 1000000)
IsPartWithin (part.Cabin cabin) = (length cabin ≤ 16) × All HasFewPassengers cabin
IsPartWithin (part.Containers containers) = (length containers ≤ 64) × All (λ item. item.mass.0 ≤ 1000000) containers
IsPartWithin (part.Loose loose) = (length loose ≤ 64) × All IsLooseWithin loose

-- so are those of a request that sets a part of them
abbrev pub IsWithinLimits : Request → Type 0
IsWithinLimits (asked.Set key edition told) = IsPartWithin told
IsWithinLimits _ = Unit {0}
