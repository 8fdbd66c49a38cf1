use Rattle.std.proofs.Common.{refl, ap, ◌∙◌}
use Rattle.placer.specs.AnswerText.{answer_text}
use Rattle.task_answers.specs.Outcomes.{outcome_of}
use Rattle.task_answers.proofs.JobLemmas.{best-path}
use Rattle.transit_answers.specs.TransitReply.{transit_of}
use Rattle.transit_answers.proofs.AnswerLemmas.{plan-onward, none-onward, budget-onward}
use Rattle.transit_answers.proofs.answers.placing_in_transit.Goals as goal

pub returns-in-Best : goal.returns-in-Best
returns-in-Best g c =
    let u = c.args.flight.now.around in
    let is = c.in-Best.is in
    let path = c.path.result.now.items in
    let reply = c.in_ok-reply.ensures in
    let best = best-path u c.args.budget c.in-Best.proven path path refl c.path.ensures.value (rw is at c.in_ok-answer.ensures) in
    plan-onward (transit_of c.args.flight.now) c.args.next.now c.args.budget u path c.in-Best.proven.certificate c.in_ok-reply.reply.outcome
    c.in_ok-reply.reply.text.items _ c.requires.kept.task best.1 c.path.ensures.value (reply.placing c.args.budget c.in_ok-answer.ensures)
    (reply.outcome ∙ ap outcome_of is) (reply.text ∙ ap (answer_text u) is) c.in_ok-push_onward-in-Best.ensures

pub returns-in-NoneFits : goal.returns-in-NoneFits
returns-in-NoneFits g c =
    let reply = c.in_ok-reply.ensures in
    none-onward (transit_of c.args.flight.now) c.args.next.now c.args.budget c.args.flight.now.around c.in_ok-reply.reply.outcome c.in_ok-reply.reply.text.items
    c.requires.kept.task (reply.placing c.args.budget c.in_ok-answer.ensures) (reply.outcome ∙ ap outcome_of c.in-NoneFits.is)

pub returns : goal.returns
returns g c =
    let reply = c.in_ok-reply.ensures in
    budget-onward (transit_of c.args.flight.now) c.args.next.now c.args.budget c.args.flight.now.around c.in_ok-reply.reply.outcome c.in_ok-reply.reply.text.items
    c.requires.kept.task (reply.placing c.args.budget c.in_ok-answer.ensures) (reply.outcome ∙ ap outcome_of c.in-Budget.is)
