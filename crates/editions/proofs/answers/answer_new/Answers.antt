use Rattle.std.proofs.Common.{refl, ap, sym, ◌∙◌}
use Rattle.std.specs.Option.{option_copied}
use Rattle.editions.proofs.AnswerLemmas.{sound-new}
use Rattle.editions.proofs.answers.answer_new.Goals as goal

pub returns-clause-sound : goal.returns-clause-sound
returns-clause-sound c =
    sound-new c.args.fleet.now c.in-Some.a.now c.args.leg.now c.args.leg.now c.new_flight-next.result (sym c.aircraft_of.ensures.found ∙ ap (λ o. option_copied o) c.in-Some.is) c.new_flight-next.ensures.lawful refl c.new_flight-next.ensures.value
