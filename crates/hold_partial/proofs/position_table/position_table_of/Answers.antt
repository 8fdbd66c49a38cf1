use Rattle.std.proofs.Common.{arith, rules}
use Rattle.hold_partial.specs.Tables.{IsPositionEntry}
use Rattle.hold_partial.proofs.TableLemmas.{each-push}
use Rattle.hold_partial.proofs.position_table.position_table_of.Goals as goal

pub push-requires : goal.push-requires
push-requires c = (search rules, omega arith)

pub loop-number-preserved : goal.loop-number-preserved
loop-number-preserved c = record {
  count = omega (arith, c.push.ensures.len, c.loop-number.invariant.count);
  each = rw c.push.ensures.items (each-push (IsPositionEntry c.args.hold.now c.args.ranks.now) _ c.loop-number.number c.entry_of.result c.loop-number.invariant.count c.loop-number.invariant.each c.entry_of.ensures);
}

pub returns : goal.returns
returns c = record {
  count = omega (arith, c.loop-number.invariant.count, c.position_count-number-end.ensures.value);
  each = λ q d within. c.loop-number.invariant.each q d (omega (arith, c.position_count-number-end.ensures.value));
}
