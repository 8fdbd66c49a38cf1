-- What the fields of a head say of its body and of its connection (RFC 9112, sections 6 and 9.6).
use Rattle.std.specs.Prelude.{ℕ, Bool, ◌&&◌, if◌then◌else◌, nat_lt, nat_le, List, [], ◌∷◌, length, map, filter, Option, Some, None, codes}
use Rattle.std.specs.List.{list_all, list_any}
use Rattle.std.specs.Char.{is_ascii_digit}
use Rattle.std.specs.Str.{str_eq_ignore_ascii_case}
use Rattle.std.specs.Str.Parse.{digits_value}

-- the name of a field, and its value without the white space around it
abbrev pub NamedValue : Type 0
NamedValue = List ℕ × List ℕ

-- the field has this name, in upper or lower case
abbrev pub is_named : List ℕ → NamedValue → Bool
is_named name field = str_eq_ignore_ascii_case field.0 name

-- the values of the fields of this name, in order
abbrev pub values_of : List ℕ → List NamedValue → List (List ℕ)
values_of name fields = map (λ field. field.1) (filter (is_named name) fields)

-- the body has a transfer coding
abbrev pub is_coded : List NamedValue → Bool
is_coded fields = list_any (is_named (codes "transfer-encoding")) fields

-- the field asks for the connection to be closed
abbrev pub is_close : NamedValue → Bool
is_close field = is_named (codes "connection") field && str_eq_ignore_ascii_case field.1 (codes "close")

-- a field asks for the connection to be closed
abbrev pub is_closing : List NamedValue → Bool
is_closing fields = list_any is_close fields

-- a length is spelled by 1 to 9 digits
abbrev pub is_length : List ℕ → Bool
is_length text = nat_lt 0 (length text) && nat_le (length text) 9 && list_all is_ascii_digit text

-- the length that these values of `Content-Length` state: 0 if there is none; more than one state nothing
abbrev pub stated_by : List (List ℕ) → Option ℕ
stated_by [] = Some 0
stated_by (text ∷ []) = if is_length text then Some (digits_value 10 text) else None
stated_by (text ∷ other ∷ more) = None

-- the length of the body
abbrev pub body_length : List NamedValue → Option ℕ
body_length fields = stated_by (values_of (codes "content-length") fields)
