-- the paths of the desk, as the rows of a router
use Rattle.std.specs.Prelude.{ℕ, List, [], ◌∷◌, codes, Result, Ok, Err}
use Rattle.matchit.specs.Rows.{RowsOf}
use Rattle.matchit.specs.Order.{placed}
use Rattle.matchit.specs.Route.{Scan, parse_route}
use Rattle.matchit.specs.Router.{RouteOf, route_from}
use Rattle.matchit.specs.declared.error.InsertError.{InsertError}
use Rattle.desk_routes.specs.declared.route.Route.{Route}
use Rattle.desk_routes.specs.declared.route.Route.TheVariants.{Flights, Flight, Dry, Fuel, Limits, Cabin, Containers, Loose, Plan, Best, Task, Release, Late, Reopen, Depart, Sheet, Ldm, Cpm}

-- the path of a route, with names for the flight's key and for the edition
abbrev pub path_of : Route → List ℕ
path_of Flights = codes "/flights"
path_of Flight = codes "/flights/{key}"
path_of Dry = codes "/flights/{key}/dry/{edition}"
path_of Fuel = codes "/flights/{key}/fuel/{edition}"
path_of Limits = codes "/flights/{key}/limits/{edition}"
path_of Cabin = codes "/flights/{key}/cabin/{edition}"
path_of Containers = codes "/flights/{key}/containers/{edition}"
path_of Loose = codes "/flights/{key}/loose/{edition}"
path_of Plan = codes "/flights/{key}/plan/{edition}"
path_of Best = codes "/flights/{key}/best/{edition}"
path_of Task = codes "/flights/{key}/task/{edition}"
path_of Release = codes "/flights/{key}/release/{edition}"
path_of Late = codes "/flights/{key}/lmc/{edition}"
path_of Reopen = codes "/flights/{key}/reopen/{edition}"
path_of Depart = codes "/flights/{key}/depart/{edition}"
path_of Sheet = codes "/flights/{key}/sheet"
path_of Ldm = codes "/flights/{key}/ldm"
path_of Cpm = codes "/flights/{key}/cpm"

abbrev pub all_routes : List Route
all_routes =
    Flights ∷ Flight ∷ Dry ∷ Fuel ∷ Limits ∷ Cabin ∷ Containers ∷ Loose
    ∷ Plan ∷ Best ∷ Task ∷ Release ∷ Late ∷ Reopen ∷ Depart ∷ Sheet ∷ Ldm ∷ Cpm ∷ []

-- Rows of a router ------------------------------------------------------------------------------

abbrev pub DeskRows : Type 0
DeskRows = RowsOf (RouteOf Route)

-- the rows with one more, where its text is a route
abbrev pub added_as : Result Scan InsertError → Route → DeskRows → DeskRows
added_as (Ok scan) route rows = placed (scan.pattern, route_from scan route) rows
added_as (Err error) route rows = rows

unfoldable pub added : Route → DeskRows → DeskRows
added route rows = added_as (parse_route (path_of route)) route rows

-- the rows with these routes added one after another
abbrev pub rows_with : List Route → DeskRows → DeskRows
rows_with [] rows = rows
rows_with (route ∷ more) rows = rows_with more (added route rows)

-- the rows of the desk
unfoldable pub desk_rows : DeskRows
desk_rows = rows_with all_routes []
