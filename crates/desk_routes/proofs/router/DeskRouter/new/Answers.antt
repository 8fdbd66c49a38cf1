use Rattle.desk_routes.proofs.Routing.{all_added, one_more}
use Rattle.desk_routes.proofs.router.DeskRouter.new.Goals as goal

pub loop-route-preserved : goal.loop-route-preserved
loop-route-preserved c = one_more c.loop-route.route-index c.loop-route.router c.add.new.router _ c.loop-route-test.true c.in_ok-add.ensures c.loop-route.invariant

pub invariant_of-result : goal.invariant_of-result
invariant_of-result c = record {
  routes = all_added c.loop-route.route-index c.loop-route.router c.loop-route-test.false c.loop-route.invariant;
}
