-- The elements of a message's second line, part by part.
use Rattle.std.proofs.Common.{◌≡◌, ℕ, ◌+◌, List, [], ◌∷◌, ◌++◌, length, get_or, take, refl, ap, ◌∙◌, arith}
use Rattle.std.proofs.lemmas.List.{length-map}
use Rattle.mass_units.specs.Spelling.{number_text}
use Rattle.telex.specs.Elements.{Element, said}
use Rattle.telex.specs.Parts.{dot, slash}
use Rattle.telex.specs.declared.reading.Part.{Part}
use Rattle.ldm_cpm.specs.Messages.{Heading, heading_elements, crew_elements}

-- the element at this index says the same
pub before-at : (k : ℕ) (a b : List Element) → a ≡ b → (get_or a k (0, [])).0 ≡ (get_or b k (0, [])).0
before-at k a b e = ap (λ (es : List Element). (get_or es k (0, [])).0) e

pub text-at : (k : ℕ) (a b : List Element) → a ≡ b → (get_or a k (0, [])).1 ≡ (get_or b k (0, [])).1
text-at k a b e = ap (λ (es : List Element). (get_or es k (0, [])).1) e

abbrev pub heading_from : List ℕ → List ℕ → List ℕ → List ℕ → Heading
heading_from flight day registration version = record { flight = flight; day = day; registration = registration; version = version }

-- parts that say what a heading is
pub record SaysHeading (a b c d : Part) (h : Heading) : Type 0 where
  pub flight : a.before ≡ 0
  pub day : b.before ≡ slash
  pub registration : c.before ≡ dot
  pub version : d.before ≡ dot
  pub same : heading_from a.text.now b.text.now c.text.now d.text.now ≡ h

-- parts that say what a heading and a crew are
pub record SaysCrew (a b c d e f : Part) (h : Heading) (cockpit cabin : ℕ) : Type 0 where
  pub heading : said (a ∷ b ∷ c ∷ d ∷ []) ≡ heading_elements h
  pub cockpit_mark : e.before ≡ dot
  pub cockpit_text : e.text.now ≡ number_text cockpit
  pub cabin_mark : f.before ≡ slash
  pub cabin_text : f.text.now ≡ number_text cabin

pub says-crew : (a b c d e f : Part) (h : Heading) (cockpit cabin : ℕ) → said (a ∷ b ∷ c ∷ d ∷ e ∷ f ∷ []) ≡ crew_elements h cockpit cabin
    → SaysCrew a b c d e f h cockpit cabin
says-crew a b c d e f h cockpit cabin is =
    let one = said (a ∷ b ∷ c ∷ d ∷ e ∷ f ∷ []) in
    let other = crew_elements h cockpit cabin in
    record {
      heading = ap (λ (es : List Element). take 4 es) is;
      cockpit_mark = before-at 4 one other is;
      cockpit_text = text-at 4 one other is;
      cabin_mark = before-at 5 one other is;
      cabin_text = text-at 5 one other is;
    }

pub said-crew : (a b c d e f : Part) (h : Heading) (cockpit cabin : ℕ) → said (a ∷ b ∷ c ∷ d ∷ []) ≡ heading_elements h
    → e.before ≡ dot → e.text.now ≡ number_text cockpit → f.before ≡ slash → f.text.now ≡ number_text cabin
    → said (a ∷ b ∷ c ∷ d ∷ e ∷ f ∷ []) ≡ crew_elements h cockpit cabin
said-crew a b c d e f h cockpit cabin head em et fm ft =
    let two : said (e ∷ f ∷ []) ≡ (dot, number_text cockpit) ∷ (slash, number_text cabin) ∷ [] = rw (em, et, fm, ft) refl in
    ap (λ (es : List Element). es ++ said (e ∷ f ∷ [])) head ∙ ap (λ (es : List Element). heading_elements h ++ es) two

pub crew-parts : (parts : List Part) (h : Heading) (cockpit cabin : ℕ) → said parts ≡ crew_elements h cockpit cabin → length parts ≡ 6
crew-parts parts h cockpit cabin e = omega (arith, ap length e, length-map {B = Element} parts (λ (part : Part). (part.before, part.text.now)))
