-- the words of a line
use Rattle.std.specs.Prelude.{ℕ, Bool, ◌==◌, if◌then◌else◌, List, []}
use Rattle.std.specs.List.{slice_split}

abbrev pub is_space : ℕ → Bool
is_space b = b == 32

-- the words of a line are what its spaces separate
abbrev pub words_in : List ℕ → List (List ℕ)
words_in line = slice_split is_space line

-- the words that are left: none, or those of this text
abbrev pub words_left : Bool → List ℕ → List (List ℕ)
words_left read text = if read then [] else words_in text
