-- the line of a late change is read in one way only, and contains no end of a line
use Rattle.std.proofs.Common.{◌≡◌, ◌≢◌, ℕ, ◌≤◌, ℤ, unsigned_abs, w16, w32, to_z, of_z, ◌++◌, ◌∷◌, List, get_or, refl, sym, ◌∙◌, ap, arith, codes, subst}
use Rattle.std.proofs.lemmas.Int.{to_z-of_z, fits_signed_from_abs}
use Rattle.mass_units.specs.Spelling.{number_text, signed_text}
use Rattle.hold_parts.specs.Spellings.{IsName}
use Rattle.text_lines.specs.Cuts.{Avoids}
use Rattle.text_lines.proofs.FieldLemmas.{HasWord, numbers, signed, names, last_field, and_then, behind_word}
use Rattle.text_lines.proofs.Rests.{IsLineKind}
use Rattle.flight_state.specs.declared.change.Lmc.{Lmc}
use Rattle.flight_state.specs.declared.change.Lmc.TheVariants.{Cabin, Loose}
use Rattle.flight_row.specs.RowText.{change_line}
use Rattle.flight_row.specs.Spelled.{IsSpelledChange}

-- what a change of a zone says, and one of a bulk position
abbrev pub Zone : Type 0
Zone = ℕ × (ℤ × (ℤ × ℤ))

abbrev pub Bulk : Type 0
Bulk = List ℕ × (ℤ × ℤ)

abbrev pub zone_text : Zone → List ℕ
zone_text x = codes "lmc zone " ++ (number_text x.0 ++ 32 ∷ (signed_text x.1.0 ++ 32 ∷ (signed_text x.1.1.0 ++ 32 ∷ signed_text x.1.1.1)))

abbrev pub bulk_text : Bulk → List ℕ
bulk_text x = codes "lmc bulk " ++ (x.0 ++ 32 ∷ (signed_text x.1.0 ++ 32 ∷ signed_text x.1.1))

zone_lines : IsLineKind zone_text (λ (x : Zone). HasWord x.0 × (HasWord x.1.0 × (HasWord x.1.1.0 × HasWord x.1.1.1)))
zone_lines = behind_word (codes "lmc zone ") refl (and_then numbers (and_then signed (and_then signed (last_field signed))))

bulk_lines : IsLineKind bulk_text (λ (x : Bulk). IsName x.0 × (HasWord x.1.0 × HasWord x.1.1))
bulk_lines = behind_word (codes "lmc bulk ") refl (and_then names (and_then signed (last_field signed)))

-- they differ in the fifth byte
apart : (x : Zone) (y : Bulk) → zone_text x ≢ bulk_text y
apart x y e = let fifth : 122 ≡ 98 = ap (λ line. get_or line 4 0) e in absurd (omega (arith, fifth))

pub changes : IsLineKind change_line IsSpelledChange
changes = record { once = once; avoids = avoids }
  where
    once : (x y : Lmc) → IsSpelledChange x → IsSpelledChange y → change_line x ≡ change_line y → x ≡ y
    once (Cabin z a c i) (Cabin z' a' c' i') s t e =
        let same = zone_lines.once (z, (a, (c, i))) (z', (a', (c', i'))) (tt, (tt, (tt, tt))) (tt, (tt, (tt, tt))) e in
        λ j. Cabin (same j).0 (same j).1.0 (same j).1.1.0 (same j).1.1.1
    once (Cabin z a c i) (Loose name m p) s t e = absurd (apart (z, (a, (c, i))) (name, (m, p)) e)
    once (Loose name m p) (Cabin z a c i) s t e = absurd (apart (z, (a, (c, i))) (name, (m, p)) (sym e))
    once (Loose name m p) (Loose name' m' p') s t e =
        let same = bulk_lines.once (name, (m, p)) (name', (m', p')) (s.0, (tt, tt)) (t.0, (tt, tt)) e in
        λ j. Loose (same j).0 (same j).1.0 (same j).1.1

    avoids : (x : Lmc) → IsSpelledChange x → Avoids 10 (change_line x)
    avoids (Cabin z a c i) s = zone_lines.avoids (z, (a, (c, i))) (tt, (tt, (tt, tt)))
    avoids (Loose name m p) s = bulk_lines.avoids (name, (m, p)) (s.0, (tt, tt))

-- Lines that were read as a change -------------------------------------------------------------------

-- numbers that fit their types
pub narrow : (z : ℤ) → unsigned_abs z ≤ 999 → to_z w16 (of_z w16 (to_z w32 (of_z w32 z))) ≡ z
narrow z few =
    ap (λ (y : ℤ). to_z w16 (of_z w16 y)) (to_z-of_z w32 z (fits_signed_from_abs w32 z (omega (arith, few))))
    ∙ to_z-of_z w16 z (fits_signed_from_abs w16 z (omega (arith, few)))

pub wide : (z : ℤ) → unsigned_abs z ≤ 1000000 → to_z w32 (of_z w32 z) ≡ z
wide z few = to_z-of_z w32 z (fits_signed_from_abs w32 z (omega (arith, few)))

-- the fields of a change, as its readers have them
abbrev pub IsZone : Zone → Type 0
IsZone x = ((1 ≤ x.0) × (x.0 ≤ 16)) × ((unsigned_abs x.1.0 ≤ 999) × ((unsigned_abs x.1.1.0 ≤ 999) × (unsigned_abs x.1.1.1 ≤ 999)))

abbrev pub IsBulk : Bulk → Type 0
IsBulk x = IsName x.0 × ((unsigned_abs x.1.0 ≤ 1000000) × (unsigned_abs x.1.1 ≤ 999))

abbrev pub Says : List ℕ → Lmc → Type 0
Says line change = IsSpelledChange change × (line ≡ change_line change)

pub zone_said : (line : List ℕ) (x : Zone) (a c i : ℤ) → a ≡ x.1.0 → c ≡ x.1.1.0 → i ≡ x.1.1.1 → IsZone x × (line ≡ zone_text x) → Says line (Cabin x.0 a c i)
zone_said line x a c i ea ec ei read =
    let same : Cabin x.0 a c i ≡ Cabin x.0 x.1.0 x.1.1.0 x.1.1.1 = λ j. Cabin x.0 (ea j) (ec j) (ei j) in
    subst (Says line) (sym same) ((read.0.0.0, read.0.0.1, read.0.1.0, read.0.1.1.0, read.0.1.1.1), read.1)

pub bulk_said : (line : List ℕ) (x : Bulk) (m p : ℤ) → m ≡ x.1.0 → p ≡ x.1.1 → IsBulk x × (line ≡ bulk_text x) → Says line (Loose x.0 m p)
bulk_said line x m p em ep read =
    let same : Loose x.0 m p ≡ Loose x.0 x.1.0 x.1.1 = λ j. Loose x.0 (em j) (ep j) in
    subst (Says line) (sym same) ((read.0.0, read.0.1.0, read.0.1.1), read.1)

pub no_change : (line : List ℕ) → ((x : Zone) → IsZone x → line ≢ zone_text x) → ((x : Bulk) → IsBulk x → line ≢ bulk_text x) → (change : Lmc) → IsSpelledChange change → line ≢ change_line change
no_change line zone bulk (Cabin z a c i) s e = zone (z, (a, (c, i))) ((s.0, s.1), (s.2, (s.3, s.4))) e
no_change line zone bulk (Loose name m p) s e = bulk (name, (m, p)) (s.0, (s.1, s.2)) e
