-- Why a job has no answer.
use Rattle.std.specs.Prelude.{ℕ, List}
use Rattle.plan_commands.specs.declared.ending.Halt.{Halt}
use Rattle.plan_commands.specs.declared.ending.Halt.TheVariants.{BadInput, ReadFault, NoMemory}

-- P holds of the line with which a file is refused, if one is
abbrev pub IfBadInput : Halt → (List ℕ → Type 0) → Type 0
IfBadInput (BadInput line) P = P line.items
IfBadInput ReadFault P = Unit {0}
IfBadInput NoMemory P = Unit {0}
