use Rattle.std.proofs.Common.{◌∙◌, sym}
use Rattle.desk_routes.proofs.Routing.{no_query, no_text, plain_target}
use Rattle.desk_routes.proofs.router.DeskRouter.route.Goals as goal

pub returns-in_default : goal.returns-in_default
returns-in_default c = no_text c.args.target.now c.in_default.ensures.cases.0

pub returns-then-contains : goal.returns-then-contains
returns-then-contains c = no_query c.args.target.now c.in-Ok.ensures.cases.1 (sym c.contains.ensures.value ∙ c.if-contains.true)

pub returns : goal.returns
returns c =
    let text = c.in-Ok.ensures.cases in
    rw text.0 at c.found.ensures ∙ plain_target c.args.target.now text.1 (sym c.contains.ensures.value ∙ c.if-contains.false)
