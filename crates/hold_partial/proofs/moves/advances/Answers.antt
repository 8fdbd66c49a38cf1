use Rattle.std.proofs.Common.{[], ◌∷◌, length, sym, ◌∙◌}
use Rattle.std.proofs.lemmas.Bool.{false≢true}
use Rattle.hold_reach.proofs.ReachLemmas.{next-item}
use Rattle.hold_reach.proofs.ViableLemmas.{IsRising-front, IsRising-next}
use Rattle.hold_partial.proofs.moves.advances.Goals as goal

pub returns-then-not-falls-clause-unviable : goal.returns-then-not-falls-clause-unviable
returns-then-not-falls-clause-unviable c = λ refused viable.
    absurd (false≢true (sym (sym c.is_ok.ensures.value ∙ refused) ∙ c.try_place.ensures.sound.1 viable.sound))

pub returns-else-not-falls-clause-unviable : goal.returns-else-not-falls-clause-unviable
returns-else-not-falls-clause-unviable c = λ _ viable.
    let t = c.args.partial.now.task in
    let front = c.args.partial.now.prefix in
    let next = next-item t (length front) c.requires in
    let stays = (IsRising-next t front next.0 c.args.number (IsRising-front t front (c.args.number ∷ []) viable.rising) next.1).1 viable.rising in
    absurd (false≢true (sym stays ∙ sym (c.falls.ensures next.0 next.1) ∙ c.if-not-falls.false))
