use Rattle.std.proofs.Common.{◌-◌, List, ℕ, All, ◌∙◌, sym, subst, length, arith}
use Rattle.std.specs.Prelude.{IfOk, nat_le}
use Rattle.aircraft_file.specs.Craft.{Craft}
use Rattle.editions.specs.Answers.{IsAnswer, IsLawfulAt, MakesSound}
use Rattle.editions.specs.Places.{states, state_at, IsPlaceOf}
use Rattle.editions.specs.Settled.{IsSettledBy}
use Rattle.editions.specs.Sound.{IsKeptFlight}
use Rattle.editions.proofs.OfficeLemmas.{HasAsked, HasTurned, figures-kept, keys-kept, may-come, office-after, turn-is, tables-after, books-of}
use Rattle.editions.proofs.PlaceLemmas.{within-place}
use Rattle.editions.proofs.office.Office.turn.Given as given
use Rattle.editions.proofs.office.Office.turn.Goals.{After-answer_at-answer, After-push_reserved}
use Rattle.editions.proofs.office.Office.turn.Goals as goal

pub act_at-act-requires : goal.act_at-act-requires
act_at-act-requires g c = subst (λ (key : List ℕ). IsPlaceOf (states c.self.inside.flights.flights) key c.place_of-place.result) c.key_of-key.ensures c.place_of-place.ensures

pub answer_at-answer-requires-clause-kept : goal.answer_at-answer-requires-clause-kept
answer_at-answer-requires-clause-kept g c = subst (λ (fleet : List Craft). All (IsKeptFlight fleet) c.self.inside.flights.flights) (sym c.deref.ensures.value) c.self.invariant.0.sound

pub answer_at-answer-requires-clause-within : goal.answer_at-answer-requires-clause-within
answer_at-answer-requires-clause-within g c = within-place c.self.inside.flights.flights c.key_of-key.result c.place_of-place.result c.place_of-place.ensures

-- what was asked, and what is answered
asked : (g : given.Over) (c : After-answer_at-answer g) → HasAsked c.self.inside.fleet.items c.self.inside.flights.flights c.args.request c.key_of-key.result c.place_of-place.result c.act_at-act.result c.answer_at-answer.result
asked g c = record {
  key_is = c.key_of-key.ensures;
  at = c.place_of-place.ensures;
  asked = c.act_at-act.ensures c.self.inside.fleet.items c.self.invariant.0.sound;
  given = subst (λ (fleet : List Craft). IfOk c.answer_at-answer.result (IsAnswer fleet (nat_le 2000 (length c.self.inside.flights.flights)) (state_at c.self.inside.flights.flights c.place_of-place.result) c.act_at-act.result)) c.deref.ensures.value c.answer_at-answer.ensures.answer;
}

pub settle-outcome-requires-clause-place : goal.settle-outcome-requires-clause-place
settle-outcome-requires-clause-place g c = c.place_of-place.ensures

pub settle-outcome-requires-clause-key : goal.settle-outcome-requires-clause-key
settle-outcome-requires-clause-key g c = keys-kept c.self.inside.fleet.items c.self.inside.flights.flights c.args.request c.key_of-key.result c.place_of-place.result c.act_at-act.result c.answer_at-answer.result (asked g (goal.at.settle-outcome-requires-clause-key g c).After-answer_at-answer)

pub settle-outcome-requires-clause-figures : goal.settle-outcome-requires-clause-figures
settle-outcome-requires-clause-figures g c same =
    figures-kept c.self.inside.fleet.items c.self.inside.flights.flights c.args.request c.key_of-key.result c.place_of-place.result c.act_at-act.result c.answer_at-answer.result (asked g (goal.at.settle-outcome-requires-clause-figures g c).After-answer_at-answer)
    (sym c.keeps_figures.ensures ∙ same)

pub settle-outcome-requires-clause-sound : goal.settle-outcome-requires-clause-sound
settle-outcome-requires-clause-sound g c =
    let fleet = c.self.inside.fleet.items in
    let flights = c.self.inside.flights.flights in
    let lawful = may-come fleet flights c.args.request c.key_of-key.result c.place_of-place.result c.act_at-act.result c.answer_at-answer.result (asked g (goal.at.settle-outcome-requires-clause-sound g c).After-answer_at-answer) c.requires.within in
    subst (λ (fs : List Craft). IfOk c.answer_at-answer.result (MakesSound fs)) (c.deref.ensures.value ∙ sym c.deref-2.ensures.value)
    (c.answer_at-answer.ensures.sound (subst (λ (fs : List Craft). IsLawfulAt fs (state_at flights c.place_of-place.result) c.act_at-act.result) (sym c.deref.ensures.value) lawful))

-- what the turn has done
turned : (g : given.Over) (c : After-push_reserved g) → HasTurned c.self.inside.fleet.items c.self.inside.rows.items c.self.inside.opening.items c.self.inside.history.items c.self.inside.flights.flights c.settle-outcome.new.flights.flights c.args.request c.key_of-key.result c.place_of-place.result c.act_at-act.result c.answer_at-answer.result
    (g.K.Keeper.tables c.args.keeper.now) (g.K.Keeper.tables c.settle-outcome.new.keeper) c.settle-outcome.result.0 c.settle-outcome.result.1
turned g c = record {
  office = c.self.invariant.0;
  told = record {
    key_is = c.key_of-key.ensures;
    at = c.place_of-place.ensures;
    asked = c.act_at-act.ensures c.self.inside.fleet.items c.self.invariant.0.sound;
    given = subst (λ (fleet : List Craft). IfOk c.answer_at-answer.result (IsAnswer fleet (nat_le 2000 (length c.self.inside.flights.flights)) (state_at c.self.inside.flights.flights c.place_of-place.result) c.act_at-act.result)) c.deref.ensures.value c.answer_at-answer.ensures.answer;
  };
  settled = subst (λ (fleet : List Craft). IsSettledBy fleet c.place_of-place.result c.answer_at-answer.result c.self.inside.flights.flights c.settle-outcome.new.flights.flights (g.K.Keeper.tables c.args.keeper.now) (g.K.Keeper.tables c.settle-outcome.new.keeper) c.settle-outcome.result.0 c.settle-outcome.result.1) c.deref-2.ensures.value c.settle-outcome.ensures.settled;
}

pub invariant_of-self : goal.invariant_of-self
invariant_of-self g c = rw c.push_reserved.ensures.items (
  office-after c.self.inside.fleet.items c.self.inside.rows.items c.self.inside.opening.items c.self.inside.history.items c.self.inside.flights.flights c.settle-outcome.new.flights.flights c.args.request c.args.desk c.key_of-key.result c.place_of-place.result c.act_at-act.result c.answer_at-answer.result
      (g.K.Keeper.tables c.args.keeper.now) (g.K.Keeper.tables c.settle-outcome.new.keeper) c.settle-outcome.result.0 c.settle-outcome.result.1 (turned g (goal.at.invariant_of-self g c).After-push_reserved),
  c.self.invariant.1,
  omega (arith, c.self.invariant.2, c.requires.spare, c.push_reserved.ensures.capacity, c.push_reserved.ensures.len),
)

pub returns-clause-turn : goal.returns-clause-turn
returns-clause-turn g c = rw (← c.self.view_is) (
    turn-is c.self.inside.fleet.items c.self.inside.rows.items c.self.inside.opening.items c.self.inside.history.items c.self.inside.flights.flights c.settle-outcome.new.flights.flights c.args.request c.args.desk c.key_of-key.result c.place_of-place.result c.act_at-act.result c.answer_at-answer.result
    (g.K.Keeper.tables c.args.keeper.now) (g.K.Keeper.tables c.settle-outcome.new.keeper) c.settle-outcome.result.0 c.settle-outcome.result.1 (turned g (goal.at.returns-clause-turn g c).After-push_reserved)
    c.self.inside.spare (g.K.Keeper.faults c.args.keeper.now) (g.K.Keeper.faults c.settle-outcome.new.keeper) _
    (books-of c.self.inside.fleet.items c.self.inside.rows.items c.self.inside.opening.items c.push_reserved.new.self.items _ (c.self.inside.spare - 1) c.push_reserved.ensures.items)
    c.settle-outcome.ensures.cause)

pub returns-clause-tables : goal.returns-clause-tables
returns-clause-tables g c h = rw c.push_reserved.ensures.items (
    tables-after c.self.inside.fleet.items c.self.inside.rows.items c.self.inside.opening.items c.self.inside.history.items c.self.inside.flights.flights c.settle-outcome.new.flights.flights c.args.request c.args.desk c.key_of-key.result c.place_of-place.result c.act_at-act.result c.answer_at-answer.result
    (g.K.Keeper.tables c.args.keeper.now) (g.K.Keeper.tables c.settle-outcome.new.keeper) c.settle-outcome.result.0 c.settle-outcome.result.1 (turned g (goal.at.returns-clause-tables g c).After-push_reserved)
    c.self.inside.spare (c.self.inside.spare - 1) (rw (← c.self.view_is) at h))
