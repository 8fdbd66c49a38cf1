-- The compartments of a hold, one after another.
use Rattle.std.proofs.Common.{◌≡◌, ℕ, ◌+◌, ◌<◌, List, [], ◌∷◌, ◌++◌, inl, inr, refl, ap, ◌∙◌, arith, add-one}
use Rattle.std.specs.List.{flat_map}
use Rattle.std.specs.Prelude.{nat_lt}
use Rattle.std.proofs.lemmas.Bool.{cases_Bool}
use Rattle.std.proofs.lemmas.Bool.Decides.{nat_tests}
use Rattle.std.proofs.lemmas.List.{append-nil}
use Rattle.std.proofs.lemmas.List.Concat.{flat_map-append}
use Rattle.std.proofs.lemmas.List.Sums.{sum_by-append}
use Rattle.mass_units.specs.declared.Kg.{Kg}
use Rattle.mass_units.specs.Spelling.{number_text}
use Rattle.last_minute.specs.declared.sheet.Place.{Place}
use Rattle.telex.specs.Elements.{Element}
use Rattle.ldm_cpm.specs.Messages.{total, load_elements}
use Rattle.ldm_cpm.specs.Sheets.{marked, mass_in, load_in, loads_below}

-- below 0 there is no compartment
pub loads-none : (ps : List Place) → loads_below 0 ps ≡ []
unfolding loads_below
loads-none ps = refl

loads-more : (c : ℕ) (ps : List Place) → loads_below (c + 1) ps ≡ loads_below c ps ++ load_in c ps
unfolding loads_below
loads-more c ps = ap (λ n. loads_below n ps) (add-one c)

total-load_in : (c : ℕ) (ps : List Place) → total (load_in c ps) ≡ mass_in c ps
total-load_in c ps = elim (cases_Bool (nat_lt 0 (mass_in c ps))) [
  | inl some ↦ rw some (omega arith)
  | inr none ↦ rw none (grind (arith, nat_tests, none))
]

-- the mass up to one more compartment
pub total-more : (c : ℕ) (ps : List Place) → total (loads_below (c + 1) ps) ≡ total (loads_below c ps) + mass_in c ps
total-more c ps =
    ap total (loads-more c ps) ∙ sum_by-append (λ (load : ℕ × Kg). load.1.0) (loads_below c ps) (load_in c ps)
    ∙ ap (λ n. total (loads_below c ps) + n) (total-load_in c ps)

-- the text up to one more compartment
pub text-more : (c : ℕ) (ps : List Place)
    → marked (flat_map load_elements (loads_below (c + 1) ps)) ≡ marked (flat_map load_elements (loads_below c ps)) ++ marked (flat_map load_elements (load_in c ps))
text-more c ps =
    ap (λ loads. marked (flat_map load_elements loads)) (loads-more c ps)
    ∙ ap marked (flat_map-append load_elements (loads_below c ps) (load_in c ps))
    ∙ flat_map-append (λ (e : Element). e.0 ∷ e.1) (flat_map load_elements (loads_below c ps)) (flat_map load_elements (load_in c ps))

pub text-some : (c : ℕ) (ps : List Place) → 0 < mass_in c ps
    → marked (flat_map load_elements (load_in c ps)) ≡ 46 ∷ (number_text c ++ (47 ∷ number_text (mass_in c ps)))
text-some c ps some = elim (cases_Bool (nat_lt 0 (mass_in c ps))) [
  | inl carries ↦ rw carries (ap (λ t. 46 ∷ (number_text c ++ (47 ∷ t))) (append-nil (number_text (mass_in c ps))))
  | inr empty ↦ absurd (grind (arith, nat_tests, empty, some))
]

pub text-none : (c : ℕ) (ps : List Place) → mass_in c ps ≡ 0 → marked (flat_map load_elements (load_in c ps)) ≡ []
text-none c ps none = elim (cases_Bool (nat_lt 0 (mass_in c ps))) [
  | inl carries ↦ absurd (grind (arith, nat_tests, carries, none))
  | inr empty ↦ rw empty refl
]
