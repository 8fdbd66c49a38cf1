use Rattle.std.proofs.Common.{◌≡◌, ◌&&◌, ◌||◌, ◌==◌, not, nat_le, nat_lt, true, ap, ap₂, ◌∙◌, arith}
use Rattle.std.proofs.lemmas.Bool.Decides.{nat_tests}
use Rattle.hold_choices.proofs.ConflictLemmas.{below-greatest, from-on, none-passes}
use Rattle.hold_choices.proofs.conflicts.Conflicts.taken_from_earlier_twins.Goals as goal

pub returns-in-Some : goal.returns-in-Some
returns-in-Some c = λ p within.
    let greatest = c.in-Some.ensures in
    let g = c.in-Some.greatest in
    let same : c.from.result ≡ g = omega arith in
    c.with.ensures p
    ∙ ap (λ b. b || (p == g)) (c.difference.ensures p ∙ ap₂ (λ a b. a && not b) (c.requires.up_to 63 p _ (omega arith) within) (c.requires.up_to c.from.result p _ (omega (arith, greatest.0)) within ∙ ap (nat_le p) same))
    ∙ from-on g p within
    ∙ below-greatest c.args.set g p greatest.0 greatest.1 greatest.2

pub returns-in-None : goal.returns-in-None
returns-in-None c = λ p within.
    let all : nat_le p 63 ≡ true = grind (arith, nat_tests) in
    c.requires.up_to 63 p _ (omega arith) within ∙ all ∙ none-passes c.args.set (λ q. nat_lt p q) c.in-None.ensures
