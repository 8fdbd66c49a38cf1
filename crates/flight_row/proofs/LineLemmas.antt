-- each line of a row is read in one way only, and contains no end of a line
use Rattle.std.proofs.Common.{◌≡◌, ℕ, ◌<◌, true, ◌++◌, ◌∷◌, List, refl, sym, ◌∙◌, ap, All, codes, lit<}
use Rattle.std.specs.Prelude.{bytes_eq, nat_le, if◌then◌else◌}
use Rattle.std.specs.List.{list_all, AllByRecursion}
use Rattle.std.proofs.lemmas.List.Elements.{All-weaker, All-from_recursion, recursion_from_All}
use Rattle.mass_units.specs.Spelling.{number_text}
use Rattle.hold_parts.specs.Spellings.{IsName}
use Rattle.hold_parts.specs.declared.parts.Item.{Item}
use Rattle.payload.specs.declared.figures.ZoneCount.{ZoneCount}
use Rattle.text_lines.specs.Cuts.{Avoids}
use Rattle.text_lines.specs.Lines.{line_of}
use Rattle.text_lines.specs.SpelledWords.{name_avoids}
use Rattle.text_lines.proofs.WordLemmas.{plain_word, letters_avoid}
use Rattle.text_lines.proofs.FieldLemmas.{HasWord, numbers, masses, indices, names, identities, last_field, and_then, behind_word, of_parts, of_spelled}
use Rattle.text_lines.proofs.Rests.{IsLineKind}
use Rattle.trim.specs.Limits.{HasFewPassengers}
use Rattle.trim.specs.declared.figures.Dry.{Dry}
use Rattle.trim.specs.declared.figures.Fuel.{Fuel}
use Rattle.trim.specs.declared.figures.Regulated.{Regulated}
use Rattle.trim.specs.declared.figures.LooseFigure.{LooseFigure}
use Rattle.flight_state.specs.declared.state.Stage.{Stage}
use Rattle.flight_state.specs.declared.state.Stage.TheVariants.{Working, Planned, Released, Departed}
use Rattle.flight_row.specs.declared.row.Version.{Version}
use Rattle.flight_row.specs.declared.row.Version.TheVariants.{One, Two}
use Rattle.flight_row.specs.Words.{words_in}
use Rattle.flight_row.specs.RowText.{version_line, stage_line, edition_line, releases_line, dry_line, fuel_line, limits_line, zone_line, container_line, loose_line}
use Rattle.flight_row.specs.Spelled.{IsEdition, AreToldReleases, IsSpelledDry, IsSpelledFuel, AreSpelledLimits, IsSpelledContainer, IsSpelledLoad, IsSpelledPlan}
use Rattle.flight_row.proofs.WordLemmas.{words-line_of, line-avoids}

abbrev Words : Type 0
Words = List (List ℕ)

-- A keyword and words -----------------------------------------------------------------------------

-- lines of a keyword and of words that say one entry
pub record AreWords {X : Type 0} (keyword : List ℕ) (words : X → Words) (IsRight : X → Type 0) : Type 0 where
  pub letters : list_all (nat_le 45) keyword ≡ true
  pub clear : (k : ℕ) → k < 45 → (x : X) → IsRight x → AllByRecursion (Avoids k) (words x)
  pub once : (x y : X) → words x ≡ words y → x ≡ y

module _ {X : Type 0} {keyword : List ℕ} {words : X → Words} {P : X → Type 0} (said : AreWords keyword words P) where
  clear_words : (k : ℕ) → k < 45 → (x : X) → P x → All (Avoids k) (keyword ∷ words x)
  clear_words k low x s = All-from_recursion (Avoids k) (keyword ∷ words x) (letters_avoid k keyword low said.letters, said.clear k low x s)

  pub words_are : (line : List ℕ) (x : X) → P x → line ≡ line_of (keyword ∷ words x) → words_in line ≡ keyword ∷ words x
  words_are line x s e = ap words_in e ∙ words-line_of keyword (words x) (clear_words 32 (lit< tt) x s)

  pub line_kind : IsLineKind (λ (x : X). line_of (keyword ∷ words x)) P
  line_kind = record {
    once = λ x y s t e.
        let line = line_of (keyword ∷ words x) in
        let same : keyword ∷ words x ≡ keyword ∷ words y = sym (words_are line x s refl) ∙ words_are line y t e in
        said.once x y (cc (same));
    avoids = λ x s. line-avoids keyword (words x) (clear_words 10 (lit< tt) x s);
  }

pub plan_words : AreWords (codes "plan") (λ (names : Words). names) IsSpelledPlan
plan_words = record {
  letters = refl;
  clear = λ k low names s. recursion_from_All (Avoids k) names (All-weaker IsName (Avoids k) (λ name named. name_avoids k name low named) names s.each);
  once = λ x y e. e;
}

-- A keyword and fields ----------------------------------------------------------------------------

pub editions : IsLineKind edition_line IsEdition
editions = of_spelled (behind_word (codes "edition ") refl (last_field numbers)) (λ n s. tt)

pub releases : (stage : Stage) → IsLineKind releases_line (AreToldReleases stage)
releases stage = of_spelled (behind_word (codes "releases ") refl (last_field numbers)) (λ n s. tt)

pub dry : IsLineKind dry_line IsSpelledDry
dry = of_parts (behind_word (codes "dry ") refl (and_then masses (and_then indices (and_then numbers (last_field numbers)))))
    (λ (x : Dry). (x.mass, (x.index, (x.cockpit, x.attendants))))
    (λ x y e i. record { mass = (e i).0; index = (e i).1.0; cockpit = (e i).1.1.0; attendants = (e i).1.1.1 }) (λ x s. (tt, (tt, (tt, tt))))

-- three masses, whatever they are
pub three_masses : IsLineKind (λ (m : ℕ × (ℕ × ℕ)). codes "fuel " ++ (number_text m.0 ++ 32 ∷ (number_text m.1.0 ++ 32 ∷ number_text m.1.1))) (λ (m : ℕ × (ℕ × ℕ)). HasWord m.0 × (HasWord m.1.0 × HasWord m.1.1))
three_masses = behind_word (codes "fuel ") refl (and_then numbers (and_then numbers (last_field numbers)))

pub fuel : IsLineKind fuel_line IsSpelledFuel
fuel = of_parts three_masses (λ (x : Fuel). (x.taxi.0, (x.take_off.0, x.trip.0)))
    (λ x y e i. record { taxi = record { 0 = (e i).0 }; take_off = record { 0 = (e i).1.0 }; trip = record { 0 = (e i).1.1 } }) (λ x s. (tt, (tt, tt)))

pub limits : IsLineKind limits_line AreSpelledLimits
limits = of_parts (behind_word (codes "limits ") refl (and_then masses (last_field masses)))
    (λ (x : Regulated). (x.take_off, x.landing)) (λ x y e i. record { take_off = (e i).0; landing = (e i).1 }) (λ x s. (tt, tt))

pub zones : IsLineKind zone_line HasFewPassengers
zones = of_parts (behind_word (codes "zone ") refl (and_then numbers (and_then numbers (last_field numbers))))
    (λ (x : ZoneCount). (x.adults, (x.children, x.infants))) (λ x y e i. record { adults = (e i).0; children = (e i).1.0; infants = (e i).1.1 }) (λ x s. (tt, (tt, tt)))

pub containers : IsLineKind container_line IsSpelledContainer
containers = of_parts (behind_word (codes "container ") refl (and_then identities (last_field masses)))
    (λ (x : Item). (x.id, x.mass)) (λ x y e i. record { id = (e i).0; mass = (e i).1 }) (λ x s. (s.id, tt))

pub loads : IsLineKind loose_line IsSpelledLoad
loads = of_parts (behind_word (codes "loose ") refl (and_then names (and_then masses (last_field numbers))))
    (λ (x : LooseFigure). (x.position, (x.mass, x.pieces))) (λ x y e i. record { position = (e i).0; mass = (e i).1.0; pieces = (e i).1.1 }) (λ x s. (s.name, (tt, tt)))

-- The first line, and the line of the stage -------------------------------------------------------

version_in : List ℕ → Version
version_in line = if bytes_eq line (codes "FLIGHT 1") then One else Two

version_again : (v : Version) → version_in (version_line v) ≡ v
unfolding version_in
version_again One = refl
version_again Two = refl

version_avoids : (v : Version) → Avoids 10 (version_line v)
version_avoids One = plain_word 10 (codes "FLIGHT 1") refl
version_avoids Two = plain_word 10 (codes "FLIGHT 2") refl

pub versions : IsLineKind version_line (λ (v : Version). Unit {0})
versions = record { once = λ v w s t e. sym (version_again v) ∙ ap version_in e ∙ version_again w; avoids = λ v s. version_avoids v }

stage_in : List ℕ → Stage
stage_in line =
    if bytes_eq line (codes "stage working") then Working
    else (if bytes_eq line (codes "stage planned") then Planned else (if bytes_eq line (codes "stage released") then Released else Departed))

stage_again : (s : Stage) → stage_in (stage_line s) ≡ s
unfolding stage_in
stage_again Working = refl
stage_again Planned = refl
stage_again Released = refl
stage_again Departed = refl

stage_avoids : (s : Stage) → Avoids 10 (stage_line s)
stage_avoids Working = plain_word 10 (codes "stage working") refl
stage_avoids Planned = plain_word 10 (codes "stage planned") refl
stage_avoids Released = plain_word 10 (codes "stage released") refl
stage_avoids Departed = plain_word 10 (codes "stage departed") refl

pub stages : IsLineKind stage_line (λ (s : Stage). Unit {0})
stages = record { once = λ a b s t e. sym (stage_again a) ∙ ap stage_in e ∙ stage_again b; avoids = λ s right. stage_avoids s }
