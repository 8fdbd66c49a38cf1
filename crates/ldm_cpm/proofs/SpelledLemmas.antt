-- Tests of small texts, as their readers make them.
use Rattle.std.proofs.Common.{◌≡◌, ℕ, Bool, true, List, inl, inr, refl, sym, ◌∙◌}
use Rattle.std.specs.Option.{is_some}
use Rattle.std.proofs.lemmas.Bool.{cases_Bool}
use Rattle.aircraft_file.specs.Spellings.{is_registration, is_version, spelled}
use Rattle.flight_state.specs.Spellings.{is_flight_name, is_day}
use Rattle.ldm_cpm.specs.Messages.{Heading, IsSpelledHeading}

-- a text is read exactly where it passes its test
pub reads : (test : List ℕ → Bool) (text : List ℕ) → is_some (spelled test text) ≡ test text
reads test text = elim (cases_Bool (test text)) [ inl passes ↦ rw passes refl | inr fails ↦ rw fails refl ]

pub spelled-heading : (h : Heading) (a b c d : Bool) → a ≡ is_some (spelled is_flight_name h.flight) → b ≡ is_some (spelled is_day h.day)
    → c ≡ is_some (spelled is_registration h.registration) → d ≡ is_some (spelled is_version h.version) → a ≡ true → b ≡ true → c ≡ true
    → (d ≡ true → IsSpelledHeading h) × (IsSpelledHeading h → d ≡ true)
spelled-heading h a b c d ea eb ec ed ta tb tc = (
  λ td. record {
    flight = sym (reads is_flight_name h.flight) ∙ sym ea ∙ ta;
    day = sym (reads is_day h.day) ∙ sym eb ∙ tb;
    registration = sym (reads is_registration h.registration) ∙ sym ec ∙ tc;
    version = sym (reads is_version h.version) ∙ sym ed ∙ td;
  },
  λ s. ed ∙ reads is_version h.version ∙ s.version,
)
