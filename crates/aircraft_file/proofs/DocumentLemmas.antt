-- which document the bytes are
use Rattle.std.proofs.Common.{◌≡◌, List, ℕ, Some, None, inl, inr, refl, IsUtf8}
use Rattle.std.specs.Str.{is_utf8}
use Rattle.std.proofs.lemmas.Bool.{cases_Bool}
use Rattle.std.proofs.lemmas.Str.{is_utf8-from_IsUtf8, IsUtf8-from_is_utf8}
use Rattle.toml.specs.Data.{Members}
use Rattle.toml.specs.Parse.{parse_document}
use Rattle.aircraft_file.specs.Document.{document_of}

pub document_found : (text : List ℕ) (members : Members) → IsUtf8 text → parse_document text ≡ Some members → document_of text ≡ Some members
unfolding document_of
document_found text document utf8 parsed = rw (is_utf8-from_IsUtf8 text utf8, parsed) refl

pub document_none : (text : List ℕ) → (IsUtf8 text → parse_document text ≡ None) → document_of text ≡ None
unfolding document_of
document_none text none = elim (cases_Bool (is_utf8 text)) [
  | inl utf8 ↦ rw (utf8, none (IsUtf8-from_is_utf8 text utf8)) refl
  | inr other ↦ rw other refl
]
