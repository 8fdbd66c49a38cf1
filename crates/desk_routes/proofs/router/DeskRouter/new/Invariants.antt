use Rattle.std.proofs.Common.{◌≡◌, drop, []}
use Rattle.desk_routes.specs.Paths.{all_routes, rows_with}
use Rattle.desk_routes.proofs.router.DeskRouter.new.Given as goal

abbrev pub invariant-loop-route : goal.invariant-loop-route
invariant-loop-route l = rows_with (drop l.route-index all_routes) l.router ≡ rows_with all_routes []
