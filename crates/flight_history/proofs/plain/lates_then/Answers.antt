use Rattle.std.proofs.Common.{◌≡◌, ◌∷◌, [], ◌++◌, List, unwrap_or, ap, ◌∙◌}
use Rattle.std.specs.Prelude.{option_map}
use Rattle.flight_state.specs.declared.change.Lmc.{Lmc}
use Rattle.flight_history.specs.declared.entry.Act.{Act}
use Rattle.flight_history.specs.Standing.{late_by, lates_in}
use Rattle.flight_history.proofs.PlainLemmas.{acts-all, lates-more}
use Rattle.flight_history.proofs.plain.lates_then.Goals as goal

pub loop-entry-preserved : goal.loop-entry-preserved
loop-entry-preserved c =
    let lates = c.loop-entry.lates in
    let now : c.in-Some.next ≡ unwrap_or (option_map (λ (l : Lmc). lates ++ l ∷ []) (late_by c.entry-item.result.act)) lates = rw c.in-Some.is at c.in_ok-next.ensures in
    now ∙ lates-more c.args.first lates c.args.entries.now c.loop-entry.entry-index c.entry-item.result c.loop-entry-test.true c.entry-item.is c.loop-entry.invariant

pub returns : goal.returns
returns c = c.loop-entry.invariant ∙ ap (λ (acts : List Act). c.args.first ++ lates_in acts) (acts-all c.args.entries.now c.loop-entry.entry-index c.loop-entry-test.false)
