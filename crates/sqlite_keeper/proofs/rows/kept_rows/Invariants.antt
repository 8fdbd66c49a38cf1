-- The rows so far are those of the table, and in order.
use Rattle.std.proofs.Common.{◌≡◌, take, map}
use Rattle.keeper.specs.Tables.{AreInKeyOrder}
use Rattle.sqlite_keeper.specs.Table.{columns, stored}
use Rattle.sqlite_keeper.proofs.rows.kept_rows.Given as goal

abbrev pub invariant-loop-row : goal.invariant-loop-row
invariant-loop-row l = AreInKeyOrder l.rows.items × (map columns (take l.row-index l.found) ≡ map stored l.rows.items)
