-- what two inbound messages say together: which places stay, and whether the messages agree
use Rattle.std.specs.Prelude.{ℕ, Bool, false, not, List, sum_by, bytes_eq}
use Rattle.std.specs.List.{filter}
use Rattle.std.specs.Option.{option_map_or}
use Rattle.telex.specs.declared.reading.Part.{Part}
use Rattle.ldm_cpm.specs.declared.messages.CpmPlace.{CpmPlace}

-- there is something on the place that goes on behind this station
abbrev pub stays : List ℕ → CpmPlace → Bool
stays station place = option_map_or (λ (to : Part). not (bytes_eq to.text.now station)) place.destination false

-- the places with something that goes on, in the order of the message
abbrev pub staying_at : List ℕ → List CpmPlace → List CpmPlace
staying_at station places = filter (stays station) places

-- the mass that the container message has together
abbrev pub mass_of_places : List CpmPlace → ℕ
mass_of_places places = sum_by (λ (p : CpmPlace). p.mass.0) places
