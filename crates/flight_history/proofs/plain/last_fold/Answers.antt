use Rattle.std.proofs.Common.{sym, ap, ◌∙◌}
use Rattle.flight_history.specs.declared.entry.Entry.{Entry}
use Rattle.flight_history.specs.Standing.{folds_lates}
use Rattle.flight_history.proofs.PlainLemmas.{fold-none, fold-here, fold-past, fold-all}
use Rattle.flight_history.proofs.plain.last_fold.Goals.{then-folds_lates, else-folds_lates}
use Rattle.flight_history.proofs.plain.last_fold.Goals as goal

pub loop-at-init : goal.loop-at-init
loop-at-init c = fold-none

pub loop-at-preserved : goal.loop-at-preserved
loop-at-preserved c =
    let is = c.index-entries-at.is in
    let told = ap (λ (e : Entry). folds_lates e.act) is ∙ sym c.folds_lates.ensures in
    elim c.if-folds_lates.branch [
      | then-folds_lates w ↦ rw w.place-is (fold-here c.args.entries.now c.loop-at.at c.index-entries-at.result c.loop-at-test.true is (told ∙ w.if-folds_lates.true))
      | else-folds_lates w ↦ rw w.place-is (fold-past c.args.entries.now c.loop-at.at c.loop-at.place c.index-entries-at.result c.loop-at-test.true is (told ∙ w.if-folds_lates.false) c.loop-at.invariant)
    ]

pub returns : goal.returns
returns c = fold-all c.args.entries.now c.loop-at.at c.loop-at.place c.loop-at-test.false c.loop-at.invariant
