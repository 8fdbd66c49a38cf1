use Rattle.plan_commands.proofs.FileLemmas.{IfErr-from_residual}
use Rattle.plan_answers.specs.AnyReply.{any_listed}
use Rattle.plan_commands.proofs.AnswerLemmas.{bad-task, bad-checked_task, bad-certificate, bad-best_task, bad-task_of_why, bad-task_of_any, bad-any, bad-priced_task, bad-task_of_prices, bad-prices, bad-stops, placed-answer, judged-answer, placed-by_trees-answer, explained-answer, any-judged-answer, placed-with_prices-answer, prices-judged-answer, placed-over_sectors-answer, summed-answer}
use Rattle.plan_commands.proofs.ReplyLemmas.{placing-answered, judgement-answered, tree-placing-answered, explanation-answered, any-judgement-answered, priced-placing-answered, priced-judgement-answered, stop-placing-answered, summary-answered}
use Rattle.plan_commands.proofs.jobs.answer_to.Goals as goal

pub returns-in_err-task-in-Place-clause-refused : goal.returns-in_err-task-in-Place-clause-refused
returns-in_err-task-in-Place-clause-refused g c =
    let halt = c.in_err-task-in-Place.field-0.0 in
    rw c.in-Place.is
    (IfErr-from_residual c.from_residual.result halt _ c.from_residual.ensures.1
    (bad-task halt (g.F.Shelf.files c.args.shelf.now) c.in-Place.task.now c.in-Place.budget c.in_err-task-in-Place.ensures.refused))

pub returns-in_err-task-in-Check-clause-refused : goal.returns-in_err-task-in-Check-clause-refused
returns-in_err-task-in-Check-clause-refused g c =
    let halt = c.in_err-task-in-Check.field-0.0 in
    rw c.in-Check.is
    (IfErr-from_residual c.from_residual-in_err-task-in-Check.result halt _ c.from_residual-in_err-task-in-Check.ensures.1
    (bad-checked_task halt (g.F.Shelf.files c.args.shelf.now) c.in-Check.task.now c.in-Check.certificate.now c.in_err-task-in-Check.ensures.refused))

pub returns-in_err-certificate-in-Check-clause-refused : goal.returns-in_err-certificate-in-Check-clause-refused
returns-in_err-certificate-in-Check-clause-refused g c =
    let halt = c.in_err-certificate-in-Check.field-0.0 in
    let refused = rw c.in_ok-task-in-Check.ensures.same at c.in_err-certificate-in-Check.ensures.refused in
    rw c.in-Check.is
    (IfErr-from_residual c.from_residual-in_err-certificate-in-Check.result halt _ c.from_residual-in_err-certificate-in-Check.ensures.1
    (bad-certificate halt (g.F.Shelf.files c.args.shelf.now) c.in-Check.task.now c.in-Check.certificate.now c.in_ok-task-in-Check.task c.in_ok-task-in-Check.ensures.read refused))

pub returns-in_ok-placement-in-Place-clause-answered : goal.returns-in_ok-placement-in-Place-clause-answered
returns-in_ok-placement-in-Place-clause-answered g c =
    rw c.in-Place.is
    (placed-answer (g.F.Shelf.files c.args.shelf.now) c.in-Place.task.now c.in-Place.budget c.in_ok-task-in-Place.task _ _ c.in_ok-task-in-Place.ensures.read c.in_ok-placement-in-Place.ensures)

pub returns-in_ok-judgement-in-Check-clause-answered : goal.returns-in_ok-judgement-in-Check-clause-answered
returns-in_ok-judgement-in-Check-clause-answered g c =
    let evidence = rw c.in_ok-task-in-Check.ensures.same at c.in_ok-certificate-in-Check.ensures.read in
    rw c.in-Check.is
    (judged-answer (g.F.Shelf.files c.args.shelf.now) c.in-Check.task.now c.in-Check.certificate.now c.in_ok-task-in-Check.task c.in_ok-certificate-in-Check.certificate _ _
    c.in_ok-task-in-Check.ensures.read evidence c.in_ok-judgement-in-Check.ensures)

pub returns-in_ok-summary-in-Generate-clause-answered : goal.returns-in_ok-summary-in-Generate-clause-answered
returns-in_ok-summary-in-Generate-clause-answered g c =
    rw c.in-Generate.is (summed-answer (g.F.Shelf.files c.args.shelf.now) c.in-Generate.number _ _ c.in_ok-summary-in-Generate.ensures)

pub returns-in_ok-placement-in-Place-clause-answers : goal.returns-in_ok-placement-in-Place-clause-answers
returns-in_ok-placement-in-Place-clause-answers g c = placing-answered _ _ _ _ c.in_ok-placement-in-Place.ensures

pub returns-in_ok-judgement-in-Check-clause-answers : goal.returns-in_ok-judgement-in-Check-clause-answers
returns-in_ok-judgement-in-Check-clause-answers g c = judgement-answered _ _ _ _ c.in_ok-judgement-in-Check.ensures

pub returns-in_ok-summary-in-Generate-clause-answers : goal.returns-in_ok-summary-in-Generate-clause-answers
returns-in_ok-summary-in-Generate-clause-answers g c = summary-answered _ _ _ c.in_ok-summary-in-Generate.ensures

-- Commands for trees and certificates of either kind --------------------------------------------

pub returns-in_err-task-in-Best-clause-refused : goal.returns-in_err-task-in-Best-clause-refused
returns-in_err-task-in-Best-clause-refused g c =
    let halt = c.in_err-task-in-Best.field-0.0 in
    rw c.in-Best.is
    (IfErr-from_residual c.from_residual-in_err-task-in-Best.result halt _ c.from_residual-in_err-task-in-Best.ensures.1
    (bad-best_task halt (g.F.Shelf.files c.args.shelf.now) c.in-Best.task.now c.in-Best.looks c.in_err-task-in-Best.ensures.refused))

pub returns-in_err-task-in-Why-clause-refused : goal.returns-in_err-task-in-Why-clause-refused
returns-in_err-task-in-Why-clause-refused g c =
    let halt = c.in_err-task-in-Why.field-0.0 in
    rw c.in-Why.is
    (IfErr-from_residual c.from_residual-in_err-task-in-Why.result halt _ c.from_residual-in_err-task-in-Why.ensures.1
    (bad-task_of_why halt (g.F.Shelf.files c.args.shelf.now) c.in-Why.task.now c.in-Why.looks c.in_err-task-in-Why.ensures.refused))

pub returns-in_err-task-in-CheckAny-clause-refused : goal.returns-in_err-task-in-CheckAny-clause-refused
returns-in_err-task-in-CheckAny-clause-refused g c =
    let halt = c.in_err-task-in-CheckAny.field-0.0 in
    rw c.in-CheckAny.is
    (IfErr-from_residual c.from_residual-in_err-task-in-CheckAny.result halt _ c.from_residual-in_err-task-in-CheckAny.ensures.1
    (bad-task_of_any halt (g.F.Shelf.files c.args.shelf.now) c.in-CheckAny.task.now c.in-CheckAny.certificate.now c.in_err-task-in-CheckAny.ensures.refused))

pub returns-in_err-certificate-in-CheckAny-clause-refused : goal.returns-in_err-certificate-in-CheckAny-clause-refused
returns-in_err-certificate-in-CheckAny-clause-refused g c =
    let halt = c.in_err-certificate-in-CheckAny.field-0.0 in
    let refused = rw c.in_ok-task-in-CheckAny.ensures.same at c.in_err-certificate-in-CheckAny.ensures.refused in
    rw c.in-CheckAny.is
    (IfErr-from_residual c.from_residual-in_err-certificate-in-CheckAny.result halt _ c.from_residual-in_err-certificate-in-CheckAny.ensures.1
    (bad-any halt (g.F.Shelf.files c.args.shelf.now) c.in-CheckAny.task.now c.in-CheckAny.certificate.now c.in_ok-task-in-CheckAny.task c.in_ok-task-in-CheckAny.ensures.read refused))

pub returns-in_ok-placing_by_trees-in-Best-clause-answered : goal.returns-in_ok-placing_by_trees-in-Best-clause-answered
returns-in_ok-placing_by_trees-in-Best-clause-answered g c =
    rw c.in-Best.is
    (placed-by_trees-answer (g.F.Shelf.files c.args.shelf.now) c.in-Best.task.now c.in-Best.looks c.in_ok-task-in-Best.task _ _ c.in_ok-task-in-Best.ensures.read c.in_ok-placing_by_trees-in-Best.ensures)

pub returns-in_ok-explanation-in-Why-clause-answered : goal.returns-in_ok-explanation-in-Why-clause-answered
returns-in_ok-explanation-in-Why-clause-answered g c =
    rw c.in-Why.is
    (explained-answer (g.F.Shelf.files c.args.shelf.now) c.in-Why.task.now c.in-Why.looks c.in_ok-task-in-Why.task _ _ c.in_ok-task-in-Why.ensures.read c.in_ok-explanation-in-Why.ensures)

pub returns-in_ok-explanation-in-Why-clause-answers : goal.returns-in_ok-explanation-in-Why-clause-answers
returns-in_ok-explanation-in-Why-clause-answers g c = explanation-answered _ _ _ _ c.in_ok-explanation-in-Why.ensures

pub returns-in_ok-judgement_of_any-in-CheckAny-clause-answered : goal.returns-in_ok-judgement_of_any-in-CheckAny-clause-answered
returns-in_ok-judgement_of_any-in-CheckAny-clause-answered g c =
    let evidence = rw c.in_ok-task-in-CheckAny.ensures.same at c.in_ok-certificate-in-CheckAny.ensures.read in
    rw c.in-CheckAny.is
    (any-judged-answer (g.F.Shelf.files c.args.shelf.now) c.in-CheckAny.task.now c.in-CheckAny.certificate.now c.in_ok-task-in-CheckAny.task (any_listed c.in_ok-certificate-in-CheckAny.certificate) _ _
    c.in_ok-task-in-CheckAny.ensures.read evidence c.in_ok-judgement_of_any-in-CheckAny.ensures)

pub returns-in_ok-placing_by_trees-in-Best-clause-answers : goal.returns-in_ok-placing_by_trees-in-Best-clause-answers
returns-in_ok-placing_by_trees-in-Best-clause-answers g c = tree-placing-answered _ _ _ _ c.in_ok-placing_by_trees-in-Best.ensures

pub returns-in_ok-judgement_of_any-in-CheckAny-clause-answers : goal.returns-in_ok-judgement_of_any-in-CheckAny-clause-answers
returns-in_ok-judgement_of_any-in-CheckAny-clause-answers g c = any-judgement-answered _ _ _ _ c.in_ok-judgement_of_any-in-CheckAny.ensures

-- Commands for certificates with prices --------------------------------------------------------

pub returns-in_err-task-in-Priced-clause-refused : goal.returns-in_err-task-in-Priced-clause-refused
returns-in_err-task-in-Priced-clause-refused g c =
    let halt = c.in_err-task-in-Priced.field-0.0 in
    rw c.in-Priced.is
    (IfErr-from_residual c.from_residual-in_err-task-in-Priced.result halt _ c.from_residual-in_err-task-in-Priced.ensures.1
    (bad-priced_task halt (g.F.Shelf.files c.args.shelf.now) c.in-Priced.task.now c.in-Priced.budget c.in_err-task-in-Priced.ensures.refused))

pub returns-in_err-task-in-CheckPriced-clause-refused : goal.returns-in_err-task-in-CheckPriced-clause-refused
returns-in_err-task-in-CheckPriced-clause-refused g c =
    let halt = c.in_err-task-in-CheckPriced.field-0.0 in
    rw c.in-CheckPriced.is
    (IfErr-from_residual c.from_residual-in_err-task-in-CheckPriced.result halt _ c.from_residual-in_err-task-in-CheckPriced.ensures.1
    (bad-task_of_prices halt (g.F.Shelf.files c.args.shelf.now) c.in-CheckPriced.task.now c.in-CheckPriced.certificate.now c.in_err-task-in-CheckPriced.ensures.refused))

pub returns-in_err-certificate-in-CheckPriced-clause-refused : goal.returns-in_err-certificate-in-CheckPriced-clause-refused
returns-in_err-certificate-in-CheckPriced-clause-refused g c =
    let halt = c.in_err-certificate-in-CheckPriced.field-0.0 in
    let refused = rw c.in_ok-task-in-CheckPriced.ensures.same at c.in_err-certificate-in-CheckPriced.ensures.refused in
    rw c.in-CheckPriced.is
    (IfErr-from_residual c.from_residual-in_err-certificate-in-CheckPriced.result halt _ c.from_residual-in_err-certificate-in-CheckPriced.ensures.1
    (bad-prices halt (g.F.Shelf.files c.args.shelf.now) c.in-CheckPriced.task.now c.in-CheckPriced.certificate.now c.in_ok-task-in-CheckPriced.task c.in_ok-task-in-CheckPriced.ensures.read refused))

pub returns-in_ok-placing_with_prices-in-Priced-clause-answered : goal.returns-in_ok-placing_with_prices-in-Priced-clause-answered
returns-in_ok-placing_with_prices-in-Priced-clause-answered g c =
    rw c.in-Priced.is
    (placed-with_prices-answer (g.F.Shelf.files c.args.shelf.now) c.in-Priced.task.now c.in-Priced.budget c.in_ok-task-in-Priced.task _ _ c.in_ok-task-in-Priced.ensures.read c.in_ok-placing_with_prices-in-Priced.ensures)

pub returns-in_ok-judgement_of_prices-in-CheckPriced-clause-answered : goal.returns-in_ok-judgement_of_prices-in-CheckPriced-clause-answered
returns-in_ok-judgement_of_prices-in-CheckPriced-clause-answered g c =
    let evidence = rw c.in_ok-task-in-CheckPriced.ensures.same at c.in_ok-certificate-in-CheckPriced.ensures.read in
    rw c.in-CheckPriced.is
    (prices-judged-answer (g.F.Shelf.files c.args.shelf.now) c.in-CheckPriced.task.now c.in-CheckPriced.certificate.now c.in_ok-task-in-CheckPriced.task c.in_ok-certificate-in-CheckPriced.certificate _ _
    c.in_ok-task-in-CheckPriced.ensures.read evidence c.in_ok-judgement_of_prices-in-CheckPriced.ensures)

pub returns-in_ok-placing_with_prices-in-Priced-clause-answers : goal.returns-in_ok-placing_with_prices-in-Priced-clause-answers
returns-in_ok-placing_with_prices-in-Priced-clause-answers g c = priced-placing-answered _ _ _ _ c.in_ok-placing_with_prices-in-Priced.ensures

pub returns-in_ok-judgement_of_prices-in-CheckPriced-clause-answers : goal.returns-in_ok-judgement_of_prices-in-CheckPriced-clause-answers
returns-in_ok-judgement_of_prices-in-CheckPriced-clause-answers g c = priced-judgement-answered _ _ _ _ c.in_ok-judgement_of_prices-in-CheckPriced.ensures

-- Commands for loads over several sectors -------------------------------------------------------

pub returns-in_err-stops-in-Stops-clause-refused : goal.returns-in_err-stops-in-Stops-clause-refused
returns-in_err-stops-in-Stops-clause-refused g c =
    let halt = c.in_err-stops-in-Stops.field-0.0 in
    rw c.in-Stops.is
    (IfErr-from_residual c.from_residual-in_err-stops-in-Stops.result halt _ c.from_residual-in_err-stops-in-Stops.ensures.1
    (bad-stops halt (g.F.Shelf.files c.args.shelf.now) c.in-Stops.file.now c.in-Stops.budget c.in_err-stops-in-Stops.ensures.refused))

pub returns-in_ok-placing_over_sectors-in-Stops-clause-answered : goal.returns-in_ok-placing_over_sectors-in-Stops-clause-answered
returns-in_ok-placing_over_sectors-in-Stops-clause-answered g c =
    rw c.in-Stops.is
    (placed-over_sectors-answer (g.F.Shelf.files c.args.shelf.now) c.in-Stops.file.now c.in-Stops.budget c.in_ok-stops-in-Stops.stops _ _ c.in_ok-stops-in-Stops.ensures.read c.in_ok-placing_over_sectors-in-Stops.ensures)

pub returns-in_ok-placing_over_sectors-in-Stops-clause-answers : goal.returns-in_ok-placing_over_sectors-in-Stops-clause-answers
returns-in_ok-placing_over_sectors-in-Stops-clause-answers g c = stop-placing-answered _ _ _ _ c.in_ok-placing_over_sectors-in-Stops.ensures

-- Commands for a flight in transit --------------------------------------------------------------

pub returns-in-Transit-clause-answered : goal.returns-in-Transit-clause-answered
returns-in-Transit-clause-answered g c = rw c.in-Transit.is c.answer_in_transit_from.ensures.answered

pub returns-in-Transit-clause-refused : goal.returns-in-Transit-clause-refused
returns-in-Transit-clause-refused g c = rw c.in-Transit.is c.answer_in_transit_from.ensures.refused
