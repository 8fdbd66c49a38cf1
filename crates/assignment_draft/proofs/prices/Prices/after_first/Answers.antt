use Rattle.std.proofs.Common.{◌∙◌}
use Rattle.std.proofs.lemmas.List.{take_rest}
use Rattle.assignment_draft.proofs.PriceSteps.{sound-after}
use Rattle.assignment_draft.proofs.prices.Prices.after_first.Goals as goal

pub returns-clause-sound : goal.returns-clause-sound
returns-clause-sound c =
    let prices = c.args.self.now in
    sound-after prices c.args.candidates.now c.requires.sound c.requires.followed _ c.fill.ensures (c.fill-2.ensures ∙ c.as_slice.ensures.value)
    (rw c.deref.ensures.0 at c.fill-3.ensures ∙ take_rest prices.items.items 1) (c.fill-4.ensures ∙ c.as_slice-2.ensures.value)
