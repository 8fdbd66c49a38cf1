-- lists of texts, borrowed and owned
use Rattle.std.specs.Prelude.{ℕ, List, map, Vec}
use Rattle.std.specs.Borrow.{Bor}
use Rattle.std.specs.declared.alloc.Global.{Global}

abbrev pub texts : List (Bor (List ℕ)) → List (List ℕ)
texts borrowed = map (λ text. text.now) borrowed

abbrev pub names_in : Vec (Vec ℕ Global) Global → List (List ℕ)
names_in owned = map (λ name. name.items) owned.items

abbrev pub pair_of : Bor (List ℕ) × Bor (List ℕ) → List ℕ × List ℕ
pair_of pair = (pair.0.now, pair.1.now)
