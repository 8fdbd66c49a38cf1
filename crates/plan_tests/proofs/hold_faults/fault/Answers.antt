use Rattle.std.proofs.Common.{◌≤◌, List, [], ◌∷◌}
use Rattle.std.proofs.lemmas.List.Elements.{All-from_recursion, All-same}
use Rattle.std.specs.Prelude.{All}
use Rattle.hold_parts.specs.declared.lists.Fit.{Fit}
use Rattle.hold_parts.specs.declared.parts.Position.{Position}
use Rattle.hold_parts.specs.Spellings.{IsKind}
use Rattle.plan_tests.proofs.hold_faults.fault.Goals as goal

HasDigit : Position → Type 0
HasDigit position = position.compartment ≤ 9

HasKinds : Position → Type 0
HasKinds position = All (λ (fit : Fit). IsKind fit.kind) position.fits

pub new-requires : goal.new-requires
unfolding HasDigit HasKinds
new-requires c =
    let a = c.in_ok-bulk in
    let one : List Position = a.field-0 ∷ [] in
    record {
      compartments = All-same HasDigit _ one c.in_ok-positions.ensures.items (All-from_recursion HasDigit one (a.ensures.digit, tt));
      kinds = All-same HasKinds _ one c.in_ok-positions.ensures.items (All-from_recursion HasKinds one (a.ensures.kinds, tt));
      combined = c.requires.combined;
      cumulative = c.requires.cumulative;
      lateral = tt;
    }
