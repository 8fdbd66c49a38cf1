use Rattle.std.proofs.Common.{refl, ◌≡◌, None, sym, subst, ◌∙◌}
use Rattle.std.specs.Prelude.{Result}
use Rattle.hold_limits.specs.Problem.{Problem}
use Rattle.trim.specs.declared.fault.TrimFault.{TrimFault}
use Rattle.trim.specs.Refusals.{IsTaskOf}
use Rattle.flight_state.specs.Effective.{effective}
use Rattle.flight_history.specs.declared.entry.Act.TheVariants.{Take}
use Rattle.flight_history.specs.Verdict.{not_current}
use Rattle.editions.specs.Sound.{IsTaskAnswer}
use Rattle.editions.proofs.ReasonLemmas.{none-from, none-one, verdict-said}
use Rattle.editions.proofs.answers.answer_take.Goals as goal

pub returns-in_ok-copy-in-Ok : goal.returns-in_ok-copy-in-Ok
returns-in_ok-copy-in-Ok c = λ a told.
    let s = c.args.flight.now.state in
    let task = c.in_ok-copy-in-Ok.field-0 in
    let of_flight : IsTaskOf a (effective s) c.in-Ok.task = subst (λ (r : Result Problem TrimFault). IsTaskAnswer a s r) c.in-Ok.is told in
    let of_copy : IsTaskOf a (effective s) task = subst (λ (t : Problem). IsTaskOf a (effective s) t) (sym c.in_ok-copy-in-Ok.ensures) of_flight in
    let current : not_current s c.args.edition ≡ None = sym c.not_current.ensures ∙ none-from c.not_current.result c.in_default.not-Some in
    (verdict-said a s (Take c.args.edition) None (none-one (not_current s c.args.edition) current) (task, of_copy), refl, refl, (task, of_copy, refl))
