use Rattle.std.proofs.Common.{◌≡◌, List, ℕ, take}
use Rattle.std.specs.Ordering.{nat_cmp}
use Rattle.std.specs.Cmp.Lexicographic.{slice_cmp}
use Rattle.std.specs.BTreeMap.{get_by}
use Rattle.hold_parts.specs.Names.{number_named}
use Rattle.hold_parts.proofs.names.PositionNames.new.Given as goal

abbrev pub invariant-loop-number : goal.invariant-loop-number
invariant-loop-number l =
    (name : List ℕ) → get_by (λ k. slice_cmp nat_cmp name k.now) l.numbers ≡ number_named (take l.number l.positions) name
