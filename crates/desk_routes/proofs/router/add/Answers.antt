use Rattle.desk_routes.proofs.Routing.{adds}
use Rattle.desk_routes.proofs.router.add.Goals as goal

pub returns : goal.returns
returns c = rw c.in-Ok.is at (adds c.args.route c.args.router.now c.insert.new.self c.insert.result (rw c.path.ensures at c.insert.ensures))
