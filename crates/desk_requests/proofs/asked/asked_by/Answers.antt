use Rattle.std.proofs.Common.{◌≡◌, inr, rules}
use Rattle.desk_routes.specs.Targets.{method_of}
use Rattle.desk_requests.proofs.asked.asked_by.Goals as goal

pub returns-in_default-asked_of-clause-asks : goal.returns-in_default-asked_of-clause-asks
returns-in_default-asked_of-clause-asks c =
    let same : c.args.method.now ≡ method_of c.args.route = search rules in
    inr (same, (c.in-Some.edition, c.in-Some.ensures.some), (c.in-Ok.wanted, c.in-Ok.ensures.wants, c.in_default-asked_of.ensures.none))

pub returns-clause-asks : goal.returns-clause-asks
returns-clause-asks c =
    let same : c.args.method.now ≡ method_of c.args.route = search rules in
    inr (same, (c.in-Some.edition, c.in-Some.ensures.some, (c.in-Ok.wanted, c.in-Ok.ensures.wants, c.in-Some-asked_of.ensures.keyed, c.in-Some-asked_of.ensures.some)))
