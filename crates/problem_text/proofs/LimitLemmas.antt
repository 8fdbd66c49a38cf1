-- the names on the line of a combined limit
use Rattle.std.proofs.Common.{◌≡◌, ◌≢◌, ℕ, ◌≤◌, List, [], ◌∷◌, length, arith}
use Rattle.hold_parts.specs.declared.parts.Position.{Position}
use Rattle.text_lines.specs.WordRuns.{run_text, name_text}

pub run_is_some : (ps : List Position) (places : List ℕ) → 1 ≤ length places → run_text (name_text ps) places ≢ []
run_is_some ps [] some e = absurd (omega arith)
run_is_some ps (q ∷ places) some e = absurd (cc)

pub some_in_run : (ps : List Position) (places words : List ℕ) → words ≢ [] → words ≡ run_text (name_text ps) places → 1 ≤ length places
some_in_run ps [] words some e = absurd (some e)
some_in_run ps (q ∷ places) words some e = omega arith
