-- a document, its keys, and what a reader returns for them
use Rattle.std.specs.Prelude.{◌≡◌, ◌≢◌, ℕ, List, [], if◌then◌else◌, Option, Some, None, option_and_then, Result, Ok, Err}
use Rattle.std.specs.Str.{is_utf8}
use Rattle.toml.specs.Data.{Data, Members, get_member, as_table}
use Rattle.toml.specs.Parse.{parse_document}
use Rattle.aircraft_file.specs.declared.fault.FileFault.{FileFault}
use Rattle.aircraft_file.specs.declared.fault.FileFault.TheVariants.{Missing, Wrong, NoMemory}

-- the document that the bytes are
unfoldable pub document_of : List ℕ → Option Members
document_of text = if is_utf8 text then parse_document text else None

-- what a section of the document contains: the members of a table, or none where there is no such table
abbrev pub Contents : Type 0
Contents = Option Members

-- the value at a key; none where the key is absent
abbrev pub value_at : List ℕ → Contents → Option Data
value_at name section = option_and_then (get_member name) section

-- the table at a key; a key below something that is not a table is absent
abbrev pub section_at : List ℕ → Contents → Contents
section_at name section = option_and_then as_table (value_at name section)

-- what a value that is present says, or else that the key with this number is wrong
abbrev pub in_form : {A : Type 0} → ℕ → Option A → Result A FileFault
in_form number (Some a) = Ok a
in_form number None = Err (Wrong number)

-- a key that must be present and in its form
abbrev pub required : {A : Type 0} → ℕ → (Data → Option A) → Option Data → Result A FileFault
required number form None = Err (Missing number)
required number form (Some d) = in_form number (form d)

-- a list that is empty where its key is absent
abbrev pub optional : {A : Type 0} → ℕ → (Data → Option (List A)) → Option Data → Result (List A) FileFault
optional number form None = Ok []
optional number form (Some d) = in_form number (form d)

-- the key with this number and this name in a section
abbrev pub key : {A : Type 0} → ℕ → (Data → Option A) → List ℕ → Contents → Result A FileFault
key number form name section = required number form (value_at name section)

-- one key after the other: the first that fails decides
infixl 10 ◌>>=◌
abbrev pub ◌>>=◌ : {A B : Type 0} → Result A FileFault → (A → Result B FileFault) → Result B FileFault
Ok a >>= next = next a
Err fault >>= next = Err fault

-- the answer is the defined one, seen by `view`, or that memory ran out
abbrev pub Answers : {V A : Type 0} → (V → A) → Result V FileFault → Result A FileFault → Type 0
Answers view (Ok v) defined = defined ≡ Ok (view v)
Answers view (Err fault) defined = fault ≢ NoMemory → defined ≡ Err fault
