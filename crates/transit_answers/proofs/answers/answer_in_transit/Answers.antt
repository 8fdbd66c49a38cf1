use Rattle.std.proofs.lemmas.Result.{IfOk-weaker}
use Rattle.task_answers.specs.declared.reply.Reply.{Reply}
use Rattle.transit_answers.specs.TransitReply.{transit_of, IsTransitPlacing}
use Rattle.transit_answers.specs.TransitReply.IsAnswerAbout.{placed, made}
use Rattle.transit_answers.proofs.answers.answer_in_transit.Goals as goal

pub returns-in-BestPlan : goal.returns-in-BestPlan
returns-in-BestPlan g c =
    let flight = transit_of c.args.flight.now in
    let next = c.args.next.now in
    rw c.in-BestPlan.is
    (IfOk-weaker c.placing_in_transit.result (λ (reply : Reply). IsTransitPlacing flight next c.in-BestPlan.budget reply.outcome reply.text.items) _
    (λ (reply : Reply) placing. record { joined = c.requires.kept.joined; answer = placed c.in-BestPlan.budget reply.outcome reply.text.items placing })
    c.placing_in_transit.ensures)

pub returns-in_ok-text_around-in-TaskAround : goal.returns-in_ok-text_around-in-TaskAround
returns-in_ok-text_around-in-TaskAround g c =
    rw c.in-TaskAround.is
    (record { joined = c.requires.kept.joined; answer = made c.in_ok-text_around-in-TaskAround.field-0.items c.in_ok-text_around-in-TaskAround.ensures })
