-- each kind of line of a task is read in one way only
use Rattle.std.proofs.Common.{◌≡◌, ◌++◌, ℕ, List, refl, codes}
use Rattle.hold_parts.specs.declared.parts.Position.{Position}
use Rattle.hold_parts.specs.declared.parts.Combined.{Combined}
use Rattle.hold_parts.specs.declared.parts.Cumulative.{Cumulative}
use Rattle.hold_parts.specs.declared.parts.Item.{Item}
use Rattle.hold_parts.specs.declared.parts.Loose.{Loose}
use Rattle.mass_units.specs.declared.Kg.{Kg}
use Rattle.mass_units.specs.declared.Ticks.{Ticks}
use Rattle.mass_units.specs.Spelling.{number_text, IsNumber, IsIndex}
use Rattle.text_lines.specs.WordRuns.{run_text, name_text}
use Rattle.text_lines.proofs.NameRuns.{AreNames, line_of-names}
use Rattle.text_lines.proofs.Rests.{IsLineKind}
use Rattle.text_lines.proofs.FieldLemmas.{HasWord, IsWordKind, masses, indices, identities, named, two_words, last_field, and_then, then_run, word_entries, behind_word, of_parts, of_spelled, written_as}
use Rattle.problem_text.specs.TaskText.{end_word, side_word, exclude_line, combined_line, cumulative_line, side_line, lateral_line, item_line, loose_line, base_line, window_line, ideal_line, IsSpelledExclude, IsSpelledCombined, IsSpelledCumulative, IsSpelledSide, IsSpelledItem, IsSpelledLoose}

pub items : IsLineKind item_line IsSpelledItem
items = of_parts (behind_word (codes "item ") refl (and_then identities (last_field masses)))
    (λ (x : Item). (x.id, x.mass)) (λ x y e i. record { id = (e i).0; mass = (e i).1 }) (λ x s. (s.id, tt))

pub ends : IsWordKind end_word HasWord
ends = two_words end_word refl refl refl

pub side_words : IsWordKind side_word HasWord
side_words = two_words side_word refl refl refl

-- Lines that name positions -----------------------------------------------------------------------

module _ (ps : List Position) (names : AreNames ps) where
  pub excludes : IsLineKind (exclude_line ps) (IsSpelledExclude ps)
  excludes = behind_word (codes "exclude ") refl (and_then (named ps names) (last_field (named ps names)))

  pub cumulative : IsLineKind (cumulative_line ps) (IsSpelledCumulative ps)
  cumulative = of_parts (behind_word (codes "cumulative ") refl (and_then ends (and_then (named ps names) (last_field masses))))
      (λ (x : Cumulative). (x.forward, (x.place, x.most))) (λ x y e i. record { forward = (e i).0; place = (e i).1.0; most = (e i).1.1 }) (λ x s. (tt, (s.place, tt)))

  pub sides : IsLineKind (side_line ps) (IsSpelledSide ps)
  sides = of_parts (behind_word (codes "side ") refl (and_then (named ps names) (last_field side_words))) (λ x. x) (λ x y e. e) (λ x s. (s, tt))

  pub loads : IsLineKind (loose_line ps) (IsSpelledLoose ps)
  loads = of_parts (behind_word (codes "loose ") refl (and_then (named ps names) (last_field masses)))
      (λ (x : Loose). (x.position, x.mass)) (λ x y e i. record { position = (e i).0; mass = (e i).1 }) (λ x s. (s.position, tt))

pub combined_line-is : (ps : List Position) (limit : Combined) → combined_line ps limit ≡ codes "combined " ++ (number_text limit.most.0 ++ run_text (name_text ps) limit.places)
combined_line-is ps limit i = codes "combined " ++ line_of-names (number_text limit.most.0) ps limit.places i

pub combined : (ps : List Position) → AreNames ps → IsLineKind (combined_line ps) (IsSpelledCombined ps)
combined ps names =
    written_as
    (of_parts (behind_word (codes "combined ") refl (then_run masses (word_entries (named ps names))))
    (λ (x : Combined). (x.most, x.places)) (λ x y e i. record { places = (e i).1; most = (e i).0 }) (λ x s. (tt, s.places)))
    (combined_line-is ps)

-- Lines of a mass and of indices ------------------------------------------------------------------

abbrev pub lateral_text : Kg → List ℕ
lateral_text most = lateral_line most.0

abbrev pub base_text : Ticks → List ℕ
base_text base = base_line base.0

abbrev pub Band : Type 0
Band = Ticks × Ticks

abbrev pub window_text : Band → List ℕ
window_text band = window_line band.0.0 band.1.0

abbrev pub ideal_text : Band → List ℕ
ideal_text band = ideal_line band.0.0 band.1.0

abbrev pub IsSpelledMass : Kg → Type 0
IsSpelledMass most = IsNumber most.0

abbrev pub IsSpelledIndex : Ticks → Type 0
IsSpelledIndex index = IsIndex index.0

abbrev pub IsSpelledBand : Band → Type 0
IsSpelledBand band = IsIndex band.0.0 × IsIndex band.1.0

pub lateral : IsLineKind lateral_text IsSpelledMass
lateral = of_spelled (behind_word (codes "lateral ") refl (last_field masses)) (λ most s. tt)

pub base : IsLineKind base_text IsSpelledIndex
base = of_spelled (behind_word (codes "base ") refl (last_field indices)) (λ index s. tt)

pub window : IsLineKind window_text IsSpelledBand
window = of_spelled (behind_word (codes "window ") refl (and_then indices (last_field indices))) (λ band s. (tt, tt))

pub ideal : IsLineKind ideal_text IsSpelledBand
ideal = of_spelled (behind_word (codes "ideal ") refl (and_then indices (last_field indices))) (λ band s. (tt, tt))
