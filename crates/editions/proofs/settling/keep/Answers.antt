use Rattle.std.proofs.Common.{ℕ, Option, subst}
use Rattle.std.specs.Prelude.{IfSome}
use Rattle.editions.specs.Answers.{HasFiguresOf}
use Rattle.editions.specs.Places.{state_at}
use Rattle.editions.proofs.SettleLemmas.{figures-at}
use Rattle.editions.proofs.settling.keep.Goals as goal

pub keep_restated-requires-clause-figures : goal.keep_restated-requires-clause-figures
keep_restated-requires-clause-figures g c =
    figures-at c.args.flights.now.flights c.in-Some.there c.args.next
    (subst (λ (place : Option ℕ). IfSome (state_at c.args.flights.now.flights place) (HasFiguresOf c.args.next)) c.in-Some.is (c.requires.figures c.if-same_figures.true))
