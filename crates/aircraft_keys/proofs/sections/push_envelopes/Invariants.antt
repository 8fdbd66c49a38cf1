use Rattle.std.proofs.Common.{◌≡◌, ◌++◌}
use Rattle.toml.specs.View.{members_view}
use Rattle.aircraft_keys.specs.Skipped.{at_each_key, at_envelope}
use Rattle.aircraft_keys.specs.Texts.{names_in}
use Rattle.aircraft_keys.proofs.sections.push_envelopes.Given as goal

abbrev pub invariant-loop-key : goal.invariant-loop-key
invariant-loop-key l =
    names_in l.out ++ at_each_key (at_envelope l.front) (members_view l.key-iterator) ≡ names_in l.fn.out ++ at_each_key (at_envelope l.front) (members_view l.fn.table.entries)
