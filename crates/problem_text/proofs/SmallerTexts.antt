-- the rest of a text as a text of its own
use Rattle.std.proofs.Common.{◌≡◌, ℕ, ◌++◌, List, sym, ◌∙◌, ap}
use Rattle.std.proofs.lemmas.List.Elements.{All-same}
use Rattle.text_lines.specs.Cuts.{Avoids}
use Rattle.text_lines.specs.Lines.{text_of}
use Rattle.text_lines.specs.declared.lines.Lines.{Lines as Point}
use Rattle.text_lines.specs.declared.fault.LineFault.{LineFault}
use Rattle.text_lines.proofs.GrammarLemmas.{fails_same}
use Rattle.text_lines.proofs.Rests.{Rest, FailsAt, Leads}
use Rattle.text_lines.proofs.OneReading.{IsReadOnce}

-- the other text says what is not known yet of the whole
abbrev pub IsWithin : {V W : Type 0} → Rest V → Rest W → (W → V) → V → Type 0
IsWithin {V} {W} rest other whole v = (w : W) × other.Is w × (rest.lines v ≡ other.lines w) × (whole w ≡ v)

-- the rest has the lines of the other text
pub record Holds {V W : Type 0} (rest : Rest V) (other : Rest W) (whole : W → V) : Type 0 where
  pub forth : (w : W) → other.Is w → rest.Is (whole w) × (rest.lines (whole w) ≡ other.lines w)
  pub back : (v : V) → rest.Is v → IsWithin rest other whole v

module _ {V W : Type 0} {rest : Rest V} {other : Rest W} {whole : W → V} (holds : Holds rest other whole) where
  pub fails_within : (at : Point) (fault : LineFault) → FailsAt other at fault → FailsAt rest at fault
  fails_within at fault fails =
      fails_same
      (λ lines s. let f = holds.forth s.said s.spelled in record { said = whole s.said; spelled = f.0; are = s.are ∙ sym f.1 })
      (λ lines s. let b = holds.back s.said s.spelled in record { said = b.0; spelled = b.1; are = s.are ∙ b.2 })
      at.rest.now at.number fault fails

  pub read_within : (w : W) → other.Is w → {text : List ℕ} → text ≡ text_of (other.lines w) → rest.Is (whole w) × (text ≡ text_of (rest.lines (whole w)))
  read_within w is e = let f = holds.forth w is in (f.0, e ∙ ap text_of (sym f.1))

-- the same thing by other lines
pub past_into : {V : Type 0} {rest other : Rest V} → Holds rest other (λ v. v) → (at : Point) → Leads rest at other at
past_into holds at = record { fails = fails_within holds at; read = λ v is e. read_within holds v is e }

pub within_then : {V W : Type 0} {rest : Rest V} {other : Rest W} {whole : W → V} → ((v : V) → rest.Is v → IsWithin rest other whole v) → IsReadOnce other → IsReadOnce rest
within_then {whole = whole} back read = record {
  once = λ v w more p q e.
      let a = back v p in
      let b = back w q in
      let same = read.once a.0 b.0 more a.1 b.1 (ap (λ t. t ++ more) (sym a.2) ∙ e ∙ b.2) in
      (sym a.3 ∙ ap whole same.0 ∙ b.3, same.1);
  clear = λ v p. let a = back v p in All-same (Avoids 10) _ _ a.2 (read.clear a.0 a.1);
}
