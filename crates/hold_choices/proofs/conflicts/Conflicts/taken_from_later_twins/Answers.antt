use Rattle.std.proofs.Common.{◌≡◌, nat_le, nat_lt, true, ap, ◌∙◌, arith}
use Rattle.std.proofs.lemmas.Bool.Decides.{nat_tests}
use Rattle.hold_choices.proofs.ConflictLemmas.{above-least, none-passes}
use Rattle.hold_choices.proofs.conflicts.Conflicts.taken_from_later_twins.Goals as goal

pub returns-in-Some : goal.returns-in-Some
returns-in-Some c = λ p within.
    let least = c.in-Some.ensures in
    let q = c.from.result in
    let same : q ≡ c.in-Some.least = omega arith in
    c.requires.up_to q p _ (omega (arith, least.0)) within ∙ ap (nat_le p) same ∙ above-least c.args.set c.in-Some.least p least.0 least.1 least.2

pub returns-in-None : goal.returns-in-None
returns-in-None c = λ p within.
    let all : nat_le p 63 ≡ true = grind (arith, nat_tests) in
    c.requires.up_to 63 p _ (omega arith) within ∙ all ∙ none-passes c.args.set (λ q. nat_lt q p) c.in-None.ensures
