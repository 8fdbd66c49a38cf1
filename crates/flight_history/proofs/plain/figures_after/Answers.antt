use Rattle.std.proofs.Common.{◌≡◌, take, ap, sym, ◌∙◌}
use Rattle.flight_history.specs.Plain.{acts_in, figures_by}
use Rattle.flight_history.specs.Standing.{figures_after}
use Rattle.trim.specs.declared.figures.Figures.{Figures}
use Rattle.flight_history.proofs.StandingLemmas.{figures-push}
use Rattle.flight_history.proofs.PlainLemmas.{acts-all, acts-more}
use Rattle.flight_history.proofs.plain.figures_after.Goals as goal

pub loop-entry-preserved : goal.loop-entry-preserved
loop-entry-preserved c =
    let o = c.args.opened.now in
    let entries = c.args.entries.now in
    let i = c.loop-entry.entry-index in
    let act = c.entry-item.result.act in
    let now : c.in-Some.next ≡ figures_by c.loop-entry.figures act = rw c.in-Some.is at c.in_ok-next.ensures in
    now ∙ ap (λ (f : Figures). figures_by f act) c.loop-entry.invariant
    ∙ sym (ap (figures_after o) (acts-more entries i c.entry-item.result c.loop-entry-test.true c.entry-item.is) ∙ figures-push o (acts_in (take i entries)) act)

pub returns : goal.returns
returns c = c.loop-entry.invariant ∙ ap (figures_after c.args.opened.now) (acts-all c.args.entries.now c.loop-entry.entry-index c.loop-entry-test.false)
