use Rattle.std.proofs.Common.{arith, pos}
use Rattle.fuel_table.specs.declared.row.FuelRow.{FuelRow}
use Rattle.fuel_table.proofs.RowLemmas.{one_some, one_none, one_outside, many_some, many_none, many_outside}
use Rattle.fuel_table.proofs.row.index_of.Goals as goal

-- what reading past the end of a list would give
zero : FuelRow
zero = record { fuel = record { 0 = 0 }; index = record { 0 = pos 0 } }

pub returns-then-rows-eq1-clause-some : goal.returns-then-rows-eq1-clause-some
unfolding zero
returns-then-rows-eq1-clause-some c = one_some c.args.rows.now zero c.args.fuel.0 c.index_of_row.result c.if-rows-eq1.true c.index_of_row.ensures.some

pub returns-then-rows-eq1-clause-none : goal.returns-then-rows-eq1-clause-none
unfolding zero
returns-then-rows-eq1-clause-none c = one_none c.args.rows.now zero c.args.fuel.0 c.index_of_row.result c.if-rows-eq1.true c.index_of_row.ensures.none

pub returns-then-rows-eq1-clause-outside : goal.returns-then-rows-eq1-clause-outside
unfolding zero
returns-then-rows-eq1-clause-outside c =
    one_outside c.args.rows.now zero c.args.fuel.0 c.index_of_row.result c.if-rows-eq1.true c.index_of_row.ensures.some c.index_of_row.ensures.none

pub returns-clause-some : goal.returns-clause-some
returns-clause-some c = many_some c.args.rows.now c.args.fuel.0 c.index_on_lines.result (omega arith) c.index_on_lines.ensures.some

pub returns-clause-none : goal.returns-clause-none
returns-clause-none c = many_none c.args.rows.now c.args.fuel.0 c.index_on_lines.result (omega arith) c.index_on_lines.ensures.none

pub returns-clause-outside : goal.returns-clause-outside
returns-clause-outside c = many_outside c.args.rows.now c.args.fuel.0 c.index_on_lines.result (omega arith) c.requires.rising c.index_on_lines.ensures.some c.index_on_lines.ensures.none
