-- what the target of a request names
use Rattle.std.specs.Prelude.{◌≡◌, ℕ, zero, suc, ◌≤◌, ◌<◌, ◌^◌, ◌==◌, if◌then◌else◌, Bool, List, length, take, drop, position, codes, Option, None, option_map, unwrap_or}
use Rattle.std.specs.List.{list_any}
use Rattle.std.specs.Str.{is_utf8}
use Rattle.matchit.specs.Seek.{first}
use Rattle.mass_units.specs.Spelling.{number_text}
use Rattle.desk_routes.specs.declared.route.Route.{Route}
use Rattle.desk_routes.specs.declared.route.Route.TheVariants.{Flights, Flight, Dry, Fuel, Limits, Cabin, Containers, Loose, Plan, Best, Task, Release, Late, Reopen, Depart, Sheet, Ldm, Cpm}
use Rattle.desk_routes.specs.Paths.{desk_rows}

-- the target asks a question, which no route does
abbrev pub has_query : List ℕ → Bool
has_query target = list_any (λ byte. byte == 63) target

-- the route that the router of the desk's paths finds
unfoldable pub route_found : List ℕ → Option Route
route_found target = option_map (λ found. found.value) (first desk_rows target)

-- the route of a target
unfoldable pub route_of : List ℕ → Option Route
route_of target = if is_utf8 target then (if has_query target then None else route_found target) else None

-- Parts of a path -------------------------------------------------------------------------------

-- where the first slash is, or the end
abbrev pub slash_at : List ℕ → ℕ
slash_at text = unwrap_or (position (λ byte. byte == 47) text) (length text)

-- the bytes before the first slash, and those after it
abbrev pub front : List ℕ → List ℕ
front text = take (slash_at text) text

abbrev pub behind : List ℕ → List ℕ
behind text = drop 1 (drop (slash_at text) text)

-- the part behind so many slashes
abbrev pub part : ℕ → List ℕ → List ℕ
part zero target = front target
part (suc n) target = part n (behind target)

-- `KEY` of `/flights/KEY/dry/E`, and `E`
abbrev pub key_in : List ℕ → List ℕ
key_in target = part 2 target

abbrev pub edition_in : List ℕ → List ℕ
edition_in target = part 4 target

-- the text is that of an edition, 1 to 4,294,967,295
pub record IsEdition (text : List ℕ) (edition : ℕ) : Type 0 where
  pub some : 1 ≤ edition
  pub fits : edition < 2 ^ 32
  pub spelled : text ≡ number_text edition

-- Methods ---------------------------------------------------------------------------------------

-- the method of a route
abbrev pub method_of : Route → List ℕ
method_of Flights = codes "POST"
method_of Flight = codes "GET"
method_of Dry = codes "PUT"
method_of Fuel = codes "PUT"
method_of Limits = codes "PUT"
method_of Cabin = codes "PUT"
method_of Containers = codes "PUT"
method_of Loose = codes "PUT"
method_of Plan = codes "POST"
method_of Best = codes "POST"
method_of Task = codes "GET"
method_of Release = codes "POST"
method_of Late = codes "POST"
method_of Reopen = codes "POST"
method_of Depart = codes "POST"
method_of Sheet = codes "GET"
method_of Ldm = codes "GET"
method_of Cpm = codes "GET"
