use Rattle.certificate.specs.Good.{AreAtMost}
use Rattle.path_search.specs.Promising.{IsFoundFor, IsPromising}
use Rattle.stop_tasks.specs.Stops.{Stops}
use Rattle.stop_world.specs.StopWorlds.{stop_world}
use Rattle.stop_placer.proofs.AnswerLemmas.{claim-answers, nothing-fits}
use Rattle.stop_placer.proofs.answer.place_stops.Goals as goal

pub returns-in_default : goal.returns-in_default
returns-in_default c = nothing-fits c.args.t.now c.args.budget c.in_default.ensures.none

pub returns-in-Some-2 : goal.returns-in-Some-2
returns-in-Some-2 c =
    let t : Stops = c.args.t.now in
    let found : IsFoundFor (stop_world t) c.in-Some-2.found = rw c.in-Some-2.is at c.in_ok-found.ensures.found in
    let few : AreAtMost (IsPromising (stop_world t)) c.args.budget = rw c.in-Some-2.is at c.in_ok-found.ensures.enough in
    claim-answers t c.args.budget (λ prefix. c.stop_world_laws.ensures.near t prefix c.first.ensures.lawful) _ c.answer_of.result found.claim few c.answer_of.ensures.best c.answer_of.ensures.none c.answer_of.ensures.spent
