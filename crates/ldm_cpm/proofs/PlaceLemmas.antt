-- Positions that were read: where their parts stand, and that each that is said is read.
use Rattle.std.proofs.Common.{◌≡◌, ℕ, ◌+◌, List, [], ◌∷◌, ◌++◌, drop, Option, Some, None, refl, sym, ap, ap₂, subst, ◌∙◌}
use Rattle.std.specs.Prelude.{IsSomeAnd, codes}
use Rattle.telex.specs.Elements.{said}
use Rattle.telex.specs.declared.reading.Part.{Part}
use Rattle.ldm_cpm.specs.Messages.{Placing, content_elements, place_elements, IsSpelledContent, IsSpelledPlacing}
use Rattle.ldm_cpm.specs.Reading.{placing_said, content_parts, PartsStand}
use Rattle.ldm_cpm.specs.declared.messages.CpmPlace.{CpmPlace}
use Rattle.ldm_cpm.proofs.ContentLemmas.{two-content, three-content, says-place}
use Rattle.ldm_cpm.proofs.PlacingLemmas.{same-made}

-- ---- where the parts stand

-- the name follows the hyphen of the first part
pub record IsName (one name : Part) : Type 0 where
  pub mark : one.before ≡ 0
  pub text : one.text.now ≡ codes "-" ++ name.text.now
  pub before : name.before ≡ 0
  pub at : name.at ≡ one.at + 1

stands-behind : (parts others : List Part) (one name last : Part) (place : CpmPlace) → parts ≡ one ∷ others → IsName one name → place.name ≡ name
    → others ≡ content_parts place ++ last ∷ [] → PartsStand parts place
stands-behind parts others one name last place e named same are =
    subst (λ ps. PartsStand ps place) (sym e) (
      ap (λ (p : Part). p.before) same ∙ named.before ∙ sym named.mark,
      ap (λ (p : Part). p.at) same ∙ named.at,
      (last, are),
    )

pub empty-stands : (parts : List Part) (one last name : Part) (place : CpmPlace) → parts ≡ one ∷ last ∷ [] → IsName one name → place.name ≡ name
    → place.id ≡ None → place.destination ≡ None → PartsStand parts place
empty-stands parts one last name place e named same id to = stands-behind parts (last ∷ []) one name last place e named same (rw (id, to) refl)

pub bulk-stands : (parts : List Part) (one to last name : Part) (place : CpmPlace) → parts ≡ one ∷ to ∷ last ∷ [] → IsName one name → place.name ≡ name
    → place.id ≡ None → place.destination ≡ Some to → PartsStand parts place
bulk-stands parts one to last name place e named same id there = stands-behind parts (to ∷ last ∷ []) one name last place e named same (rw (id, there) refl)

pub container-stands : (parts : List Part) (one id to last name : Part) (place : CpmPlace) → parts ≡ one ∷ id ∷ to ∷ last ∷ [] → IsName one name
    → place.name ≡ name → place.id ≡ Some id → place.destination ≡ Some to → PartsStand parts place
container-stands parts one id to last name place e named same which there =
    stands-behind parts (id ∷ to ∷ last ∷ []) one name last place e named same (rw (which, there) refl)

-- ---- what is said is read

same-name : (one name : Part) (text : List ℕ) → IsName one name → one.text.now ≡ codes "-" ++ text → name.text.now ≡ text
same-name one name text named is = ap (λ (t : List ℕ). drop 1 t) (sym named.text ∙ is)

pub bulk-back : (r : Option CpmPlace) (parts : List Part) (one to last name : Part) (p : Placing) → parts ≡ one ∷ to ∷ last ∷ [] → IsName one name
    → ((n : ℕ) → IsSpelledContent None (Some to.text.now) n → said (to ∷ last ∷ []) ≡ content_elements None (Some to.text.now) n
    → r ≡ Some (record { name = name; id = None; destination = Some to; mass = record { 0 = n } }))
    → IsSpelledPlacing p → said parts ≡ place_elements p → IsSomeAnd r (λ (place : CpmPlace). placing_said place ≡ p)
bulk-back r parts one to last name p e named back s is =
    let says = says-place one (to ∷ last ∷ []) p (sym (ap said e) ∙ is) in
    let content = two-content p.id p.destination p.mass.0 (to.before, to.text.now) (last.before, last.text.now) s.content says.behind in
    let spelled = subst (λ o. IsSpelledContent o (Some to.text.now) p.mass.0) content.0 (subst (λ d. IsSpelledContent p.id d p.mass.0) content.1 s.content) in
    let found = back p.mass.0 spelled (says.behind ∙ ap₂ (λ o d. content_elements o d p.mass.0) content.0 content.1) in
    subst (λ o. IsSomeAnd o (λ (place : CpmPlace). placing_said place ≡ p)) (sym found)
    (same-made name.text.now p.name None p.id (Some to.text.now) p.destination p.mass.0 p.mass.0 (same-name one name p.name named says.name) (sym content.0) (sym content.1) refl)

pub container-back : (r : Option CpmPlace) (parts : List Part) (one id to last name : Part) (p : Placing) → parts ≡ one ∷ id ∷ to ∷ last ∷ [] → IsName one name
    → ((n : ℕ) → IsSpelledContent (Some id.text.now) (Some to.text.now) n → said (id ∷ to ∷ last ∷ []) ≡ content_elements (Some id.text.now) (Some to.text.now) n
    → r ≡ Some (record { name = name; id = Some id; destination = Some to; mass = record { 0 = n } }))
    → IsSpelledPlacing p → said parts ≡ place_elements p → IsSomeAnd r (λ (place : CpmPlace). placing_said place ≡ p)
container-back r parts one id to last name p e named back s is =
    let says = says-place one (id ∷ to ∷ last ∷ []) p (sym (ap said e) ∙ is) in
    let content = three-content p.id p.destination p.mass.0 (id.before, id.text.now) (to.before, to.text.now) (last.before, last.text.now) s.content says.behind in
    let spelled = subst (λ o. IsSpelledContent o (Some to.text.now) p.mass.0) content.0 (subst (λ d. IsSpelledContent p.id d p.mass.0) content.1 s.content) in
    let found = back p.mass.0 spelled (says.behind ∙ ap₂ (λ o d. content_elements o d p.mass.0) content.0 content.1) in
    subst (λ o. IsSomeAnd o (λ (place : CpmPlace). placing_said place ≡ p)) (sym found)
    (same-made name.text.now p.name (Some id.text.now) p.id (Some to.text.now) p.destination p.mass.0 p.mass.0 (same-name one name p.name named says.name) (sym content.0) (sym content.1) refl)
