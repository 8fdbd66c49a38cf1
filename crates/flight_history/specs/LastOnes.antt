-- the last of a list that passes a test, and what comes after it and up to it
use Rattle.std.specs.Prelude.{Bool, if◌then◌else◌, List, [], ◌∷◌, Option, None}
use Rattle.std.specs.List.{list_any}
use Rattle.std.specs.Option.{option_or}

-- what the last of them tells that tells anything
abbrev pub last_told : {A B : Type 0} → (A → Option B) → List A → Option B
last_told tells [] = None
last_told tells (x ∷ xs) = option_or (last_told tells xs) (tells x)

-- those after the last that passes, and all where none does
abbrev pub since : {A : Type 0} → (A → Bool) → List A → List A
since passes [] = []
since passes (x ∷ xs) = if list_any passes xs then since passes xs else if passes x then xs else x ∷ xs

-- those up to the last that passes, and none where none does
abbrev pub up_to : {A : Type 0} → (A → Bool) → List A → List A
up_to passes [] = []
up_to passes (x ∷ xs) = if list_any passes xs then x ∷ up_to passes xs else if passes x then x ∷ [] else []
