-- The elements behind the name of a position: their number says what stands there.
use Rattle.std.proofs.Common.{◌≡◌, ℕ, ◌+◌, List, [], ◌∷◌, ◌++◌, length, drop, Option, Some, None, refl, sym, ap, arith}
use Rattle.std.specs.Prelude.{codes}
use Rattle.telex.specs.Elements.{Element, said}
use Rattle.telex.specs.declared.reading.Part.{Part}
use Rattle.ldm_cpm.specs.Messages.{Placing, content_elements, place_elements, IsSpelledContent}
use Rattle.ldm_cpm.proofs.HeadLemmas.{before-at, text-at}

pub two-content : (id to : Option (List ℕ)) (mass : ℕ) (one two : Element) → IsSpelledContent id to mass → one ∷ two ∷ [] ≡ content_elements id to mass
    → (id ≡ None) × (to ≡ Some one.1)
two-content (Some id) (Some to) mass one two s e = absurd (omega (arith, ap length e))
two-content (Some id) None mass one two s e = absurd s
two-content None (Some to) mass one two s e = (refl, ap (λ (t : List ℕ). Some t) (sym (text-at 0 (one ∷ two ∷ []) (content_elements None (Some to) mass) e)))
two-content None None mass one two s e = absurd (omega (arith, ap length e))

pub three-content : (id to : Option (List ℕ)) (mass : ℕ) (one two three : Element) → IsSpelledContent id to mass
    → one ∷ two ∷ three ∷ [] ≡ content_elements id to mass → (id ≡ Some one.1) × (to ≡ Some two.1)
three-content (Some id) (Some to) mass one two three s e =
    let a = one ∷ two ∷ three ∷ [] in
    let b = content_elements (Some id) (Some to) mass in
    (ap (λ (t : List ℕ). Some t) (sym (text-at 0 a b e)), ap (λ (t : List ℕ). Some t) (sym (text-at 1 a b e)))
three-content (Some id) None mass one two three s e = absurd s
three-content None (Some to) mass one two three s e = absurd (omega (arith, ap length e))
three-content None None mass one two three s e = absurd (omega (arith, ap length e))

-- the first part says which position it is, and the others what stands there
pub record SaysPlace (a : Part) (rest : List Part) (p : Placing) : Type 0 where
  pub mark : a.before ≡ 0
  pub name : a.text.now ≡ codes "-" ++ p.name
  pub behind : said rest ≡ content_elements p.id p.destination p.mass.0

pub says-place : (a : Part) (rest : List Part) (p : Placing) → said (a ∷ rest) ≡ place_elements p → SaysPlace a rest p
says-place a rest p e = record {
  mark = before-at 0 (said (a ∷ rest)) (place_elements p) e;
  name = text-at 0 (said (a ∷ rest)) (place_elements p) e;
  behind = ap (λ (es : List Element). drop 1 es) e;
}
