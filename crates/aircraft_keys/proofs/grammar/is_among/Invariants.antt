use Rattle.std.proofs.Common.{◌≡◌, false, List, ℕ, Bor, take}
use Rattle.std.specs.List.{list_any}
use Rattle.std.specs.Str.{bytes_eq}
use Rattle.aircraft_keys.proofs.grammar.is_among.Given as goal

abbrev pub invariant-loop-other : goal.invariant-loop-other
invariant-loop-other l = list_any (λ (other : Bor (List ℕ)). bytes_eq l.key other.now) (take l.other-index l.keys) ≡ false
