-- the texts of rules, as they are gathered, and that they have no number
use Rattle.std.proofs.Common.{◌≡◌, ◌∙◌, ◌+◌, ◌<◌, ℕ, List, [], ◌∷◌, ◌++◌, map, take, get_or, length, ap, sym, refl, false}
use Rattle.std.proofs.lemmas.List.{map-append, take_more}
use Rattle.serde_json.specs.Data.{Data, string}
use Rattle.serde_json.specs.View.{view}
use Rattle.serde_json.specs.Written.{items_have_float}
use Rattle.serde_json.specs.declared.value.Value.{Value}
use Rattle.trim.specs.Rules.{rule_text}
use Rattle.trim.specs.declared.rules.Rule.{Rule}
use Rattle.desk_answers.specs.Words.{rule_items}

abbrev pub told : Rule → Data
told rule = string (rule_text rule)

pub one_more : (rules : List Rule) (i : ℕ) (d : Rule) (values new : List Value) (v : Value) → i < length rules → view v ≡ told (get_or rules i d)
    → new ≡ values ++ v ∷ [] → map view values ≡ map told (take i rules) → map view new ≡ map told (take (i + 1) rules)
one_more rules i d values new v within is grown so_far =
    ap (map view) grown ∙ map-append view values (v ∷ []) ∙ ap (λ front. front ++ view v ∷ []) so_far ∙ ap (λ x. map told (take i rules) ++ x ∷ []) is
    ∙ sym (map-append told (take i rules) (get_or rules i d ∷ [])) ∙ ap (map told) (sym (take_more rules i d within))

pub no_float : (rules : List Rule) → items_have_float (rule_items rules) ≡ false
no_float [] = refl
no_float (rule ∷ more) = no_float more
