use Rattle.std.proofs.Common.{arith}
use Rattle.aircraft_keys.specs.Texts.{texts, names_in}
use Rattle.aircraft_keys.proofs.SkipLemmas.{tables_step, tables_end}
use Rattle.aircraft_keys.proofs.tables.push_in_tables.Goals as goal

pub loop-place-preserved : goal.loop-place-preserved
loop-place-preserved c =
    tables_step (texts c.args.keys.now) c.args.name.now c.args.list.now c.loop-place.place c.index-list-place.result (names_in c.loop-place.out) _ _
    c.loop-place-test.true c.index-list-place.is c.loop-place.invariant c.in_ok-push_numbered.ensures

pub returns : goal.returns
returns c = tables_end (texts c.args.keys.now) c.args.name.now c.args.list.now c.loop-place.place (names_in c.loop-place.out) _ (omega arith) c.loop-place.invariant
