-- the line that reports a refused file
use Rattle.std.specs.Prelude.{ℕ, List, [], ◌∷◌, flat_map, codes}
use Rattle.mass_units.specs.Spelling.{number_text}
use Rattle.text_lines.specs.Lines.{line_of, text_of}
use Rattle.aircraft_file.specs.declared.fault.FileFault.{FileFault}
use Rattle.aircraft_file.specs.declared.fault.FileFault.TheVariants.{Toml, Missing, Wrong, Hold, Envelope, Fuel, Span, NoMemory}
use Rattle.desk_fleet.specs.declared.fault.FileReason.{FileReason}
use Rattle.desk_fleet.specs.declared.fault.FileReason.TheVariants.{Long, Fault, Twice}
use Rattle.desk_fleet.specs.declared.fault.RefusedFile.{RefusedFile}

-- the number of a fault of an aircraft's file
abbrev pub fault_number : FileFault → ℕ
fault_number Toml = 1
fault_number (Missing key) = 2
fault_number (Wrong key) = 3
fault_number (Hold fault) = 4
fault_number (Envelope which fault) = 5
fault_number (Fuel fault) = 6
fault_number (Span which) = 7
fault_number NoMemory = 8

abbrev pub reason_words : FileReason → List (List ℕ)
reason_words Long = codes "LONG" ∷ []
reason_words (Fault fault) = codes "FAULT" ∷ number_text (fault_number fault) ∷ []
reason_words Twice = codes "TWICE" ∷ []

-- the words, each after a space
abbrev pub spaced : List (List ℕ) → List ℕ
spaced words = flat_map (λ word. 32 ∷ word) words

-- AIRCRAFT, the number of the file, and the reason
abbrev pub refusal_text : RefusedFile → List ℕ
refusal_text refused = text_of (line_of (codes "AIRCRAFT" ∷ number_text refused.number ∷ reason_words refused.reason) ∷ [])
