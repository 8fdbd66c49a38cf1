use Rattle.std.proofs.Common.{refl, sym, ◌∙◌}
use Rattle.std.proofs.lemmas.Bool.{false≢true}
use Rattle.hold_partial.proofs.KeptLemmas.{unbroken}
use Rattle.hold_partial.proofs.partial.Partial.try_place.Goals as goal

pub returns-in-Some-clause-sound : goal.returns-in-Some-clause-sound
returns-in-Some-clause-sound c =
    let next = unbroken c.self.inside.board c.self.invariant c.args.position (rw (← c.self.view_is) at c.requires) in
    rw (← c.self.view_is) (λ ok. absurd (false≢true ok), λ sound. absurd (cc (c.in-Some.ensures next.item next.there ∙ next.free.1 sound)))

pub put-requires-clause-sound : goal.put-requires-clause-sound
put-requires-clause-sound c =
    let next = unbroken c.self.inside.board c.self.invariant c.args.position (rw (← c.self.view_is) at c.requires) in
    next.free.0 (sym (c.in_default.ensures next.item next.there))

pub returns-clause-sound : goal.returns-clause-sound
returns-clause-sound c =
    let next = unbroken c.self.inside.board c.self.invariant c.args.position (rw (← c.self.view_is) at c.requires) in
    rw (← c.self.view_is) (λ _. next.free.0 (sym (c.in_default.ensures next.item next.there)), λ _. refl)
