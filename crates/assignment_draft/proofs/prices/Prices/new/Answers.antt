use Rattle.std.proofs.Common.{ap, sym, ◌∙◌, length, arith}
use Rattle.std.proofs.lemmas.Int.{ints}
use Rattle.assignment_draft.proofs.PriceSteps.{sound-start}
use Rattle.assignment_draft.proofs.prices.Prices.new.Goals as goal

pub returns-clause-sound : goal.returns-clause-sound
returns-clause-sound c =
    sound-start _ _ (rw (c.fill.ensures, c.fill-2.ensures) c.requires) (c.repeated-prices.ensures.count ∙ sym (ap length c.fill.ensures))
    (c.repeated-prices-2.ensures.count ∙ sym (ap length c.fill-2.ensures)) c.repeated-prices.ensures.each c.repeated-prices-2.ensures.each (omega (arith, ints))
