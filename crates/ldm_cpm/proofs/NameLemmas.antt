-- Names of positions: whether one is there already.
use Rattle.std.proofs.Common.{◌≡◌, ℕ, ◌+◌, ◌<◌, Bool, true, false, List, [], ◌∷◌, ◌++◌, length, map, inl, inr, refl, sym, ap, ◌∙◌, arith, length-append}
use Rattle.std.specs.List.{list_any}
use Rattle.std.specs.Prelude.{◌≢◌, All, bytes_eq}
use Rattle.std.proofs.lemmas.Bool.{cases_Bool, or_cases, false≢true}
use Rattle.std.proofs.lemmas.List.{get_or_append_left, get_or_at}
use Rattle.std.proofs.lemmas.List.Elements.{All-nil, All-cons, All-head, All-tail, All-push}
use Rattle.std.proofs.lemmas.List.Quantifiers.{all_pairs_push}
use Rattle.std.proofs.lemmas.Slice.Eq.{bytes_eq-Decides}
use Rattle.ldm_cpm.specs.Messages.{Placing, IsSpelledPlacing, AreSpelledPlacings}
use Rattle.ldm_cpm.specs.Reading.{placing_said}
use Rattle.ldm_cpm.specs.declared.messages.CpmPlace.{CpmPlace}

abbrev pub has_name : List ℕ → CpmPlace → Bool
has_name name place = bytes_eq place.name.text.now name

abbrev pub AreOthers : List ℕ → List Placing → Type 0
AreOthers name places = All (λ (p : Placing). p.name ≢ name) places

pub not-named : (places : List CpmPlace) (name : List ℕ) → list_any (has_name name) places ≡ false → AreOthers name (map placing_said places)
not-named [] name e = All-nil (λ (p : Placing). p.name ≢ name)
not-named (place ∷ places) name e = elim (cases_Bool (has_name name place)) [
  | inl same ↦ absurd (false≢true (sym (rw same at e)))
  | inr other ↦ All-cons (λ (p : Placing). p.name ≢ name) (placing_said place) (map placing_said places)
      (λ equal. false≢true (sym other ∙ (bytes_eq-Decides place.name.text.now name).1 equal))
      (not-named places name (rw other at e))
]

pub named : (places : List CpmPlace) (name : List ℕ) → list_any (has_name name) places ≡ true → AreOthers name (map placing_said places) → ⊥
named [] name e all = false≢true e
named (place ∷ places) name e all = elim (or_cases (has_name name place) (list_any (has_name name) places) e) [
  | inl here ↦ All-head (λ (p : Placing). p.name ≢ name) (placing_said place) (map placing_said places) all ((bytes_eq-Decides place.name.text.now name).0 here)
  | inr later ↦ named places name later (All-tail (λ (p : Placing). p.name ≢ name) (placing_said place) (map placing_said places) all)
]

-- the name of the last of some positions is that of no other
pub last-differs : (places : List Placing) (p : Placing) → AreSpelledPlacings (places ++ p ∷ []) → AreOthers p.name places
last-differs places p s = λ k d within same.
    s.differ k (length places) d within (omega (arith, length-append places (p ∷ [])))
    (ap (λ (q : Placing). q.name) (get_or_append_left places (p ∷ []) d k within) ∙ same ∙ sym (ap (λ (q : Placing). q.name) (get_or_at places p [] d (length places) refl)))

-- one more position
pub one-more-placing : (places : List Placing) (p : Placing) → AreSpelledPlacings places → IsSpelledPlacing p → AreOthers p.name places → length places < 64
    → AreSpelledPlacings (places ++ p ∷ [])
one-more-placing places p s spelled others few = record {
  spelled = All-push IsSpelledPlacing places p s.spelled spelled;
  differ = all_pairs_push (λ (a b : Placing). a.name ≢ b.name) places p s.differ (λ k d within. others k d within);
  few = omega (arith, few, length-append places (p ∷ []));
}
