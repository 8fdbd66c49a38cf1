-- borrowed texts, and tables of them
use Rattle.std.proofs.Common.{◌≡◌, ◌||◌, ℕ, List, [], ◌∷◌, Bool, Option, map, option_map, slice_get, Bor, refl, ap, sym, ◌∙◌}
use Rattle.std.specs.List.{list_any}
use Rattle.std.specs.Option.{option_map_or}
use Rattle.std.proofs.lemmas.Option.{slice_get-map}
use Rattle.aircraft_keys.specs.KeyNames.{keys}
use Rattle.aircraft_keys.specs.Texts.{texts, pair_of}

-- a test of borrowed texts is the same test of the texts
pub any_text : (test : List ℕ → Bool) (borrowed : List (Bor (List ℕ))) → list_any (λ text. test text.now) borrowed ≡ list_any test (texts borrowed)
any_text test [] = refl
any_text test (text ∷ more) = ap (λ b. test text.now || b) (any_text test more)

-- a part of the row that is found
pub found : (part : List ℕ × List ℕ → List ℕ) (rows : List (Bor (List ℕ) × Bor (List ℕ))) (number : ℕ) (row : Option (Bor (List ℕ) × Bor (List ℕ))) → map pair_of rows ≡ keys → row ≡ slice_get rows number
    → option_map_or part (option_map pair_of row) [] ≡ option_map_or part (slice_get keys number) []
found part rows number row same is =
    ap (λ o. option_map_or part o []) (ap (option_map pair_of) is ∙ sym (slice_get-map pair_of rows number) ∙ ap (λ (table : List (List ℕ × List ℕ)). slice_get table number) same)
