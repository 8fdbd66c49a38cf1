use Rattle.std.proofs.Common.{◌≡◌, ◌++◌, All}
use Rattle.mass_units.specs.Line.{Spans}
use Rattle.fuel_table.specs.Rows.{lines}
use Rattle.fuel_table.proofs.row.index_on_lines.Given as goal

abbrev pub invariant-loop-line : goal.invariant-loop-line
invariant-loop-line l = record {
  apart : All (λ line. ¬ (Spans line l.fuel.0)) l.yielded;
  rest : l.yielded ++ l.line-iterator ≡ lines l.rows;
}
