use Rattle.std.proofs.Common.{◌≡◌, ◌++◌}
use Rattle.toml.specs.View.{members_view}
use Rattle.aircraft_keys.specs.Skipped.{other_keys}
use Rattle.aircraft_keys.specs.Texts.{texts, names_in}
use Rattle.aircraft_keys.proofs.tables.push_others.Given as goal

abbrev pub invariant-loop-key : goal.invariant-loop-key
invariant-loop-key l =
    names_in l.out ++ other_keys (texts l.keys) l.front (members_view l.key-iterator) ≡ names_in l.fn.out ++ other_keys (texts l.keys) l.front (members_view l.fn.table.entries)
