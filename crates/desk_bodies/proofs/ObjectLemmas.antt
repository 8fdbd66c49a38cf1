-- the members of an object, as its map keeps them
use Rattle.std.proofs.Common.{◌≡◌, ◌∙◌, ap, List, Option, option_map, Bor, refl, nat_cmp, string_bytes, Some, None, [], ◌∷◌, length, suc, ℕ}
use Rattle.std.specs.Cmp.Lexicographic.{slice_cmp}
use Rattle.std.specs.Map.{lookup}
use Rattle.std.specs.BTreeMap.{is_at}
use Rattle.serde_json.specs.Events.{members_len}
use Rattle.serde_json.specs.Find.{get_member}
use Rattle.serde_json.specs.View.{view, members_view}
use Rattle.serde_json.specs.declared.value.Value.{Value}
use Rattle.serde_json.proofs.Views.{Entry, view-lookup}

view_of_ref : (r : Option (Bor Value)) → option_map (λ x. view x.now) r ≡ option_map view (option_map (λ x. x.now) r)
view_of_ref None = refl
view_of_ref (Some x) = refl

-- the value that a map has at a key is that of the member
pub object_get : (r : Option (Bor Value)) (k : List ℕ) (es : List Entry) → option_map (λ x. x.now) r ≡ lookup (is_at (λ x. slice_cmp nat_cmp k (string_bytes x))) es
    → option_map (λ x. view x.now) r ≡ get_member k (members_view es)
object_get r k es found = view_of_ref r ∙ ap (option_map view) found ∙ view-lookup k es

-- a map has as many entries as the object has members
pub members_len_view : (es : List Entry) → members_len (members_view es) ≡ length es
members_len_view [] = refl
members_len_view (e ∷ es) = ap suc (members_len_view es)
