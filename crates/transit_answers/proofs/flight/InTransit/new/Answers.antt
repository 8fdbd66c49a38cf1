use Rattle.std.proofs.Common.{◌≡◌, ◌≤◌, List, map, refl, sym, ap, subst, ◌∙◌, Some, None}
use Rattle.std.proofs.lemmas.List.{length-map}
use Rattle.std.proofs.lemmas.Result.{err_from_is_err_and}
use Rattle.std.specs.Prelude.{All}
use Rattle.ldm_cpm.specs.Messages.{Placing, IsSpelledPlacing}
use Rattle.ldm_cpm.specs.Reading.{heading_of, placing_said, cpm_said}
use Rattle.transit_tasks.specs.NewTask.{task_around}
use Rattle.transit_tasks.specs.TransitFaults.{transit_fault}
use Rattle.transit_messages.specs.Agreement.{staying_at}
use Rattle.transit_answers.specs.Flights.{Transit}
use Rattle.transit_answers.specs.Flights.IsTransitFault.{of_staying}
use Rattle.transit_answers.proofs.FlightLemmas.{said-stay, spelled-stay, agreed, disagreed, joined-around}
use Rattle.transit_answers.proofs.flight.InTransit.new.Goals as goal

pub agree-requires-clause-places : goal.agree-requires-clause-places
agree-requires-clause-places c = subst (λ n. n ≤ 64) (length-map c.args.cpm.now.places placing_said) c.requires.cpm.places.few

pub returns-in_err-agree-clause-refused : goal.returns-in_err-agree-clause-refused
returns-in_err-agree-clause-refused c =
    let p = err_from_is_err_and c.from_residual.result c.from_residual.ensures.1 in
    rw (p.1, p.2)
    (λ other. disagreed c.args.station.now c.args.task.now c.args.cpm.now c.args.ldm.now c.agree.result c.in_err-agree.field-0.0 c.in_err-agree.was
    c.agree.ensures.same c.agree.ensures.heads c.agree.ensures.totals)

pub returns-in_err-stay-clause-refused : goal.returns-in_err-stay-clause-refused
returns-in_err-stay-clause-refused c =
    let p = err_from_is_err_and c.from_residual-in_err-stay.result c.from_residual-in_err-stay.ensures.1 in
    rw (p.1, p.2) (λ other. absurd (other refl))

pub returns-in_err-around-clause-refused : goal.returns-in_err-around-clause-refused
returns-in_err-around-clause-refused c =
    let p = err_from_is_err_and c.from_residual-in_err-around.result c.from_residual-in_err-around.ensures.1 in
    let station = c.args.station.now in
    let cpm = c.args.cpm.now in
    let t = c.args.task.now in
    let fault = c.in_err-around.field-0.0 in
    let stays = ap (map placing_said) c.as_slice.ensures.value ∙ said-stay station cpm c.in_ok-stay.stay.items (c.in_ok-stay.ensures ∙ ap (λ n. staying_at n cpm.places) c.bytes.ensures.value) in
    rw (p.1, p.2)
    (λ other. of_staying fault (agreed station t cpm c.args.ldm.now c.agree.result (rw c.in_ok-agree.was refl) c.agree.ensures.same)
    (subst (λ (ps : List Placing). transit_fault t ps ≡ Some fault) stays (c.in_err-around.ensures.refused other)))

pub returns-clause-stated : goal.returns-clause-stated
returns-clause-stated c =
    let station = c.args.station.now in
    let cpm = c.args.cpm.now in
    let t = c.args.task.now in
    let said = said-stay station cpm c.in_ok-stay.stay.items (c.in_ok-stay.ensures ∙ ap (λ n. staying_at n cpm.places) c.bytes.ensures.value) in
    let make : List Placing → Transit = λ ps. record { heading = heading_of cpm.head; task = t; stay = ps } in
    record {
      agree = agreed station t cpm c.args.ldm.now c.agree.result (rw c.in_ok-agree.was refl) c.agree.ensures.same;
      is = ap make said;
      right = subst (λ (ps : List Placing). transit_fault t ps ≡ None) (ap (map placing_said) c.as_slice.ensures.value ∙ said) c.in_ok-around.ensures.right;
    }

pub returns-clause-kept : goal.returns-clause-kept
returns-clause-kept c =
    let station = c.args.station.now in
    let cpm = c.args.cpm.now in
    let t = c.args.task.now in
    let items = c.in_ok-stay.stay.items in
    let same = ap (map placing_said) c.as_slice.ensures.value in
    let said = said-stay station cpm items (c.in_ok-stay.ensures ∙ ap (λ n. staying_at n cpm.places) c.bytes.ensures.value) in
    let flight : Transit = record { heading = heading_of cpm.head; task = t; stay = map placing_said items } in
    record {
      heading = c.requires.cpm.heading;
      spelled = subst (All IsSpelledPlacing) (sym said) (spelled-stay station (cpm_said cpm) c.requires.cpm.places.spelled);
      right = subst (λ (ps : List Placing). transit_fault t ps ≡ None) same c.in_ok-around.ensures.right;
      task = c.in_ok-around.ensures.made ∙ ap (task_around t) same;
      joined = joined-around flight c.in_ok-around.around _ same c.in_ok-around.ensures.made c.in_ok-around.ensures.admissible c.in_ok-around.ensures.index;
    }
