use Rattle.std.proofs.Common.{◌≡◌, ◌+◌, ◌++◌, drop}
use Rattle.toml.specs.View.{items_view}
use Rattle.aircraft_keys.specs.Skipped.{in_tables}
use Rattle.aircraft_keys.specs.Texts.{texts, names_in}
use Rattle.aircraft_keys.proofs.tables.push_in_tables.Given as goal

abbrev pub invariant-loop-place : goal.invariant-loop-place
invariant-loop-place l =
    names_in l.out ++ in_tables (texts l.keys) l.name (l.place + 1) (items_view (drop l.place l.list)) ≡ names_in l.fn.out ++ in_tables (texts l.keys) l.name 1 (items_view l.list)
