-- lists of names that grow key by key, and table by table
use Rattle.std.proofs.Common.{◌≡◌, ℕ, ◌+◌, ◌<◌, ◌≤◌, List, [], ◌∷◌, ◌++◌, length, map, drop, get_or, Vec, Global, string_bytes, sym, ap, ◌∙◌}
use Rattle.std.proofs.lemmas.List.{append-nil, append_assoc, map-append, drop_all}
use Rattle.mass_units.specs.Spelling.{number_text}
use Rattle.toml.specs.Data.{Data}
use Rattle.toml.specs.View.{view, items_view, members_view}
use Rattle.toml.specs.declared.value.Value.{Value}
use Rattle.toml.proofs.Views.{Entry, items_view-drop}
use Rattle.aircraft_keys.specs.Skipped.{at_each_key, other_keys, in_table, in_tables, front_of}
use Rattle.aircraft_keys.specs.Texts.{names_in}

-- no name more
pub nothing_more : (names : List (List ℕ)) → names ≡ names ++ []
nothing_more names = sym (append-nil names)

-- one name more
pub name_added : (old new : Vec (Vec ℕ Global) Global) (name : Vec ℕ Global) (text : List ℕ) → new.items ≡ old.items ++ name ∷ [] → name.items ≡ text → names_in new ≡ names_in old ++ text ∷ []
name_added old new name text pushed is =
    ap (map (λ (n : Vec ℕ Global). n.items)) pushed ∙ map-append (λ (n : Vec ℕ Global). n.items) old.items (name ∷ []) ∙ ap (λ t. names_in old ++ t ∷ []) is

-- the names at the keys that are left, where this one is passed
pub keys_step : (names : List ℕ → Data → List (List ℕ)) (entries rest : List Entry) (e : Entry) (old new all : List (List ℕ)) → entries ≡ e ∷ rest
    → old ++ at_each_key names (members_view entries) ≡ all → new ≡ old ++ names (string_bytes e.0) (view e.1) → new ++ at_each_key names (members_view rest) ≡ all
keys_step names entries rest e old new all is was grew =
    ap (λ t. t ++ at_each_key names (members_view rest)) grew ∙ append_assoc old (names (string_bytes e.0) (view e.1)) (at_each_key names (members_view rest))
    ∙ ap (λ es. old ++ at_each_key names (members_view es)) (sym is) ∙ was

-- where no key is left, the names are all
pub keys_end : (names : List ℕ → Data → List (List ℕ)) (entries : List Entry) (old all : List (List ℕ)) → entries ≡ [] → old ++ at_each_key names (members_view entries) ≡ all → old ≡ all
keys_end names entries old all is was = sym (append-nil old) ∙ ap (λ es. old ++ at_each_key names (members_view es)) (sym is) ∙ was

-- the same of the tables of a list
pub tables_step : (keys : List (List ℕ)) (name : List ℕ) (list : List Value) (i : ℕ) (value : Value) (old new all : List (List ℕ)) → i < length list → value ≡ get_or list i value
    → old ++ in_tables keys name (i + 1) (items_view (drop i list)) ≡ all → new ≡ old ++ in_table (other_keys keys (front_of (front_of name ++ number_text (i + 1)))) (view value)
    → new ++ in_tables keys name (i + 1 + 1) (items_view (drop (i + 1) list)) ≡ all
tables_step keys name list i value old new all within here was grew =
    let names : Value → List (List ℕ) = λ v. in_table (other_keys keys (front_of (front_of name ++ number_text (i + 1)))) (view v) in
    let rest = in_tables keys name (i + 1 + 1) (items_view (drop (i + 1) list)) in
    ap (λ t. t ++ rest) (grew ∙ ap (λ v. old ++ names v) here) ∙ append_assoc old (names (get_or list i value)) rest
    ∙ ap (λ ds. old ++ in_tables keys name (i + 1) ds) (sym (items_view-drop list i value within)) ∙ was

pub tables_end : (keys : List (List ℕ)) (name : List ℕ) (list : List Value) (i : ℕ) (old all : List (List ℕ)) → length list ≤ i
    → old ++ in_tables keys name (i + 1) (items_view (drop i list)) ≡ all → old ≡ all
tables_end keys name list i old all past was = sym (append-nil old) ∙ ap (λ vs. old ++ in_tables keys name (i + 1) (items_view vs)) (sym (drop_all i list past)) ∙ was
