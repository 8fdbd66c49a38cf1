-- One more position behind those that were read.
use Rattle.std.proofs.Common.{◌≡◌, ℕ, ◌+◌, ◌<◌, ◌≤◌, true, false, List, [], ◌∷◌, ◌++◌, length, map, refl, sym, ap, subst, ◌∙◌, arith, length-append}
use Rattle.std.specs.List.{list_any}
use Rattle.std.proofs.lemmas.List.{get_or_at, length-map}
use Rattle.telex.specs.Elements.{Element, said, line_text, AreElements}
use Rattle.telex.specs.Items.{placed_part}
use Rattle.telex.specs.Lines.{PlacedLine}
use Rattle.telex.specs.Parts.{parts_of}
use Rattle.telex.specs.declared.reading.Part.{Part}
use Rattle.ldm_cpm.specs.Messages.{Placing, place_elements, IsSpelledPlacing, AreSpelledPlacings}
use Rattle.ldm_cpm.specs.Reading.{placing_said, PlaceStands, PartsStand}
use Rattle.ldm_cpm.specs.declared.messages.CpmPlace.{CpmPlace}
use Rattle.ldm_cpm.proofs.CpmReading.{said-push}
use Rattle.ldm_cpm.proofs.NameLemmas.{has_name, AreOthers, not-named, named, last-differs, one-more-placing}
use Rattle.ldm_cpm.proofs.PlainLines.{elements-place}

pub last-spelled : (places : List Placing) (p : Placing) → AreSpelledPlacings (places ++ p ∷ []) → IsSpelledPlacing p
last-spelled places p s =
    subst IsSpelledPlacing (get_or_at places p [] p (length places) refl) (s.spelled (length places) p (omega (arith, length-append places (p ∷ []))))

-- a line of a position has its elements
pub says-position : (text : List ℕ) (parts : List Part) (places : List Placing) (p : Placing)
    → ((elements : List Element) → AreElements elements → text ≡ line_text elements → said parts ≡ elements)
    → text ≡ line_text (place_elements p) → AreSpelledPlacings (places ++ p ∷ []) → said parts ≡ place_elements p
says-position text parts places p elements is s = elements (place_elements p) (elements-place p (last-spelled places p s)) is

pub line-of_position : (text : List ℕ) (parts slice : List Part) (place : CpmPlace) → line_text (said parts) ≡ text → slice ≡ parts
    → said slice ≡ place_elements (placing_said place) → text ≡ line_text (place_elements (placing_said place))
line-of_position text parts slice place joined same says = sym joined ∙ ap (λ ps. line_text (said ps)) (sym same) ∙ ap line_text says

pub stands-in_line : (line : PlacedLine) (parts slice : List Part) (place : CpmPlace) → map placed_part parts ≡ parts_of line → slice ≡ parts → PartsStand slice place
    → PlaceStands line place
stands-in_line line parts slice place are same stand = (parts, are, subst (λ ps. PartsStand ps place) same stand)

-- ---- the positions with it

pub pushed-spelled : (places : List CpmPlace) (place : CpmPlace) → IsSpelledPlacing (placing_said place) → list_any (has_name place.name.text.now) places ≡ false
    → length places < 64 → AreSpelledPlacings (map placing_said places) → AreSpelledPlacings (map placing_said (places ++ place ∷ []))
pushed-spelled places place spelled other few s =
    subst AreSpelledPlacings (sym (said-push places place))
    (one-more-placing (map placing_said places) (placing_said place) s spelled (not-named places place.name.text.now other) (omega (arith, few, length-map places placing_said)))

pub pushed-said : (places : List CpmPlace) (place : CpmPlace) (p : Placing) → placing_said place ≡ p
    → map placing_said (places ++ place ∷ []) ≡ map placing_said places ++ p ∷ []
pushed-said places place p same = said-push places place ∙ ap (λ (q : Placing). map placing_said places ++ q ∷ []) same

-- ---- what is not added

pub too-many : (places : List CpmPlace) (p : Placing) → 64 ≤ length places → AreSpelledPlacings (map placing_said places ++ p ∷ []) → ⊥
too-many places p many s = omega (arith, many, s.few, length-append (map placing_said places) (p ∷ []), length-map places placing_said)

pub named-twice : (places : List CpmPlace) (place : CpmPlace) (p : Placing) → list_any (has_name place.name.text.now) places ≡ true → placing_said place ≡ p
    → AreSpelledPlacings (map placing_said places ++ p ∷ []) → ⊥
named-twice places place p there same s =
    let others : AreOthers p.name (map placing_said places) = last-differs (map placing_said places) p s in
    named places place.name.text.now there (subst (λ name. AreOthers name (map placing_said places)) (sym (ap (λ (q : Placing). q.name) same)) others)
