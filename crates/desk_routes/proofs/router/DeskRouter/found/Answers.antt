use Rattle.std.proofs.Common.{◌∙◌, sym}
use Rattle.desk_routes.proofs.Routing.{if_none, if_some, none_found, some_found}
use Rattle.desk_routes.proofs.router.DeskRouter.found.Goals as goal

pub returns-in_err-found : goal.returns-in_err-found
returns-in_err-found c =
    rw c.from_residual.ensures (sym (none_found c.args.path.now c.args.self.now.router c.args.self.now.routes
    (if_none c.at.result _ (sym c.ok.ensures.value ∙ c.in_err-found.was) c.at.ensures.missing)))

pub returns : goal.returns
returns c =
    let at = if_some c.at.result c.in_ok-found.found _ (sym c.ok.ensures.value ∙ c.in_ok-found.was) c.at.ensures.found in
    sym (some_found c.args.path.now c.args.self.now.router _ c.args.self.now.routes at)
