-- a hold that is refused before its lateral limit is set
use Rattle.std.proofs.Common.{◌≡◌, ℕ, List, Option, Some, None}
use Rattle.std.specs.Option.{option_or}
use Rattle.hold_parts.specs.declared.parts.Position.{Position}
use Rattle.hold_parts.specs.declared.parts.Combined.{Combined}
use Rattle.hold_parts.specs.declared.parts.Cumulative.{Cumulative}
use Rattle.hold_parts.specs.declared.parts.Lateral.{Lateral}
use Rattle.hold_limits.specs.declared.fault.HoldFault.{HoldFault}
use Rattle.hold_limits.specs.Layout.{layout_of, layout_under}
use Rattle.hold_limits.specs.Faults.{hold_fault, position_fault, limit_fault, side_fault}

first_of_two : {A : Type 0} (a b c : Option A) (x : A) → option_or a (option_or b None) ≡ Some x → option_or a (option_or b c) ≡ Some x
first_of_two (Some y) b c x is = is
first_of_two None (Some y) c x is = is
first_of_two None None c x is = absurd (cc is)

-- it has the same fault under each lateral limit
pub hold_refused : (l : Option Lateral) (p : List Position) (e : List (ℕ × ℕ)) (c : List Combined) (u : List Cumulative) (fault : HoldFault)
    → hold_fault (layout_of p e c u) ≡ Some fault → hold_fault (layout_under l p e c u) ≡ Some fault
hold_refused l p e c u fault is =
    first_of_two (position_fault p) (limit_fault (layout_under l p e c u)) (side_fault (layout_under l p e c u)) fault is
