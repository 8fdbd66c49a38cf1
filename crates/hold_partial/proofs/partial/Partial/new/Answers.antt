use Rattle.std.proofs.Common.{sym, ◌∙◌, refl}
use Rattle.std.proofs.lemmas.Bool.{false≢true}
use Rattle.hold_reach.proofs.RuleLemmas.{empty-sound}
use Rattle.hold_partial.proofs.partial.Partial.new.Goals as goal

pub returns-in-Some-clause-sound : goal.returns-in-Some-clause-sound
returns-in-Some-clause-sound c =
    (λ ok. absurd (false≢true ok), λ sound. absurd (cc (sym ((empty-sound c.args.task.now).1 sound) ∙ sym c.in-Some.ensures.value)))

pub new-requires : goal.new-requires
new-requires c = (empty-sound c.args.task.now).0 (sym c.in-None.ensures.value)

pub returns-in-None-clause-sound : goal.returns-in-None-clause-sound
returns-in-None-clause-sound c = (λ _. (empty-sound c.args.task.now).0 (sym c.in-None.ensures.value), λ _. refl)
