-- which JSON value the bytes are
use Rattle.std.proofs.Common.{◌≡◌, List, ℕ, Some, None, inl, inr, refl, IsUtf8}
use Rattle.std.specs.Str.{is_utf8}
use Rattle.std.proofs.lemmas.Bool.{cases_Bool}
use Rattle.std.proofs.lemmas.Str.{is_utf8-from_IsUtf8, IsUtf8-from_is_utf8}
use Rattle.serde_json.specs.Data.{Data}
use Rattle.serde_json.specs.Read.{read}
use Rattle.desk_bodies.specs.Values.{json_of}

pub json_found : (text : List ℕ) (d : Data) → IsUtf8 text → read text ≡ Some d → json_of text ≡ Some d
unfolding json_of
json_found text d utf8 is = rw (is_utf8-from_IsUtf8 text utf8, is) refl

pub json_none : (text : List ℕ) → (IsUtf8 text → read text ≡ None) → json_of text ≡ None
unfolding json_of
json_none text none = elim (cases_Bool (is_utf8 text)) [
  | inl utf8 ↦ rw (utf8, none (IsUtf8-from_is_utf8 text utf8)) refl
  | inr other ↦ rw other refl
]
