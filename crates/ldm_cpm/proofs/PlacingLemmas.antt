-- Positions of a container message: their lines say which they are.
use Rattle.std.proofs.Common.{◌≡◌, ℕ, ◌+◌, List, [], ◌∷◌, ◌++◌, length, get_or, drop, Option, Some, None, refl, sym, ap, ap₂, subst, ◌∙◌, arith, length-append, append_assoc}
use Rattle.std.specs.Prelude.{◌≢◌, All}
use Rattle.std.proofs.lemmas.List.Elements.{All-head, All-tail}
use Rattle.mass_units.proofs.SpellingLemmas.{number_text-injective}
use Rattle.hold_limits.proofs.SoundLemmas.{All-front, AllPairs-front}
use Rattle.telex.specs.Elements.{Element, line_text, AreElements}
use Rattle.telex.specs.Lines.{PlacedLine}
use Rattle.telex.proofs.ElementLaws.{elements_of-line}
use Rattle.ldm_cpm.specs.Messages.{Placing, content_elements, place_elements, place_lines, IsSpelledContent, IsSpelledPlacing, AreSpelledPlacings}
use Rattle.ldm_cpm.proofs.HeadLemmas.{text-at}
use Rattle.ldm_cpm.proofs.PlainLines.{elements-place}

-- a line has one list of elements
pub same-elements : (a b : List Element) → AreElements a → AreElements b → line_text a ≡ line_text b → a ≡ b
same-elements a b are-a are-b e =
    let line : PlacedLine = record { text = line_text a; at = 0 } in
    sym (elements_of-line line a are-a refl) ∙ elements_of-line line b are-b e

same-content : (i d : Option (List ℕ)) (m : ℕ) (i' d' : Option (List ℕ)) (m' : ℕ) → IsSpelledContent i d m → IsSpelledContent i' d' m'
    → content_elements i d m ≡ content_elements i' d' m' → (i ≡ i') × (d ≡ d') × (m ≡ m')
same-content (Some id) (Some to) m (Some id') (Some to') m' s s' e =
    let a = content_elements (Some id) (Some to) m in
    let b = content_elements (Some id') (Some to') m' in
    (ap (λ (t : List ℕ). Some t) (text-at 0 a b e), ap (λ (t : List ℕ). Some t) (text-at 1 a b e), number_text-injective m m' (text-at 2 a b e))
same-content (Some id) (Some to) m None (Some to') m' s s' e = absurd (omega (arith, ap length e))
same-content (Some id) (Some to) m None None m' s s' e = absurd (omega (arith, ap length e))
same-content (Some id) (Some to) m (Some id') None m' s s' e = absurd s'
same-content (Some id) None m i' d' m' s s' e = absurd s
same-content None (Some to) m (Some id') (Some to') m' s s' e = absurd (omega (arith, ap length e))
same-content None (Some to) m None (Some to') m' s s' e =
    let a = content_elements None (Some to) m in
    let b = content_elements None (Some to') m' in
    (refl, ap (λ (t : List ℕ). Some t) (text-at 0 a b e), number_text-injective m m' (text-at 1 a b e))
same-content None (Some to) m None None m' s s' e = absurd (omega (arith, ap length e))
same-content None (Some to) m (Some id') None m' s s' e = absurd s'
same-content None None m (Some id') (Some to') m' s s' e = absurd (omega (arith, ap length e))
same-content None None m None (Some to') m' s s' e = absurd (omega (arith, ap length e))
same-content None None m None None m' s s' e = (refl, refl, s ∙ sym s')
same-content None None m (Some id') None m' s s' e = absurd s'

abbrev pub made : List ℕ → Option (List ℕ) → Option (List ℕ) → ℕ → Placing
made name id destination mass = record { name = name; id = id; destination = destination; mass = record { 0 = mass } }

pub same-made : (n n' : List ℕ) (i i' d d' : Option (List ℕ)) (m m' : ℕ) → n ≡ n' → i ≡ i' → d ≡ d' → m ≡ m' → made n i d m ≡ made n' i' d' m'
same-made n n' i i' d d' m m' e f g h = rw (e, f, g, h) refl

pub same-placing : (p q : Placing) → IsSpelledPlacing p → IsSpelledPlacing q → place_elements p ≡ place_elements q → p ≡ q
same-placing p q s t e =
    let name : p.name ≡ q.name = ap (λ (es : List Element). drop 1 (get_or es 0 (0, [])).1) e in
    let content = same-content p.id p.destination p.mass.0 q.id q.destination q.mass.0 s.content t.content (ap (λ (es : List Element). drop 1 es) e) in
    same-made p.name q.name p.id q.id p.destination q.destination p.mass.0 q.mass.0 name content.0 content.1 content.2

-- a line of a position says which it is
pub same-place_line : (p q : Placing) → IsSpelledPlacing p → IsSpelledPlacing q → line_text (place_elements p) ≡ line_text (place_elements q) → p ≡ q
same-place_line p q s t e =
    same-placing p q s t (same-elements (place_elements p) (place_elements q) (elements-place p s) (elements-place q t) e)

-- where lines of positions go on behind others, so do the positions
pub behind-places : (ps qs : List Placing) (more : List (List ℕ)) → All IsSpelledPlacing ps → All IsSpelledPlacing qs → place_lines qs ≡ place_lines ps ++ more
    → (others : List Placing) × (qs ≡ ps ++ others) × (place_lines others ≡ more)
behind-places [] qs more s t e = (qs, refl, e)
behind-places (p ∷ ps) [] more s t e = absurd (omega (arith, ap length e))
behind-places (p ∷ ps) (q ∷ qs) more s t e =
    let first = same-place_line q p (All-head IsSpelledPlacing q qs t) (All-head IsSpelledPlacing p ps s) (ap (λ (ls : List (List ℕ)). get_or ls 0 []) e) in
    let rest = behind-places ps qs more (All-tail IsSpelledPlacing p ps s) (All-tail IsSpelledPlacing q qs t) (ap (λ (ls : List (List ℕ)). drop 1 ls) e) in
    (rest.0, ap₂ (λ (x : Placing) (xs : List Placing). x ∷ xs) first rest.1, rest.2)

-- lines of positions say which they are
pub same-places : (ps qs : List Placing) → All IsSpelledPlacing ps → All IsSpelledPlacing qs → place_lines ps ≡ place_lines qs → ps ≡ qs
same-places [] [] s t e = refl
same-places [] (q ∷ qs) s t e = absurd (omega (arith, ap length e))
same-places (p ∷ ps) [] s t e = absurd (omega (arith, ap length e))
same-places (p ∷ ps) (q ∷ qs) s t e =
    ap₂ (λ (x : Placing) (xs : List Placing). x ∷ xs)
    (same-place_line p q (All-head IsSpelledPlacing p ps s) (All-head IsSpelledPlacing q qs t) (ap (λ (ls : List (List ℕ)). get_or ls 0 []) e))
    (same-places ps qs (All-tail IsSpelledPlacing p ps s) (All-tail IsSpelledPlacing q qs t) (ap (λ (ls : List (List ℕ)). drop 1 ls) e))

-- the first of some positions are spelled as all are
pub front-placings : (ps others : List Placing) → AreSpelledPlacings (ps ++ others) → AreSpelledPlacings ps
front-placings ps others s = record {
  spelled = All-front IsSpelledPlacing ps others s.spelled;
  differ = AllPairs-front (λ (a b : Placing). a.name ≢ b.name) ps others s.differ;
  few = omega (arith, s.few, length-append ps others);
}

-- with some positions' lines behind them, one more line is that of a position that may follow them
pub next-place : (ps qs : List Placing) (line : List ℕ) (more : List (List ℕ)) → All IsSpelledPlacing ps → AreSpelledPlacings qs → place_lines qs ≡ place_lines ps ++ (line ∷ more)
    → (p : Placing) × (line ≡ line_text (place_elements p)) × AreSpelledPlacings (ps ++ p ∷ [])
next-place ps qs line more s t e =
    let rest = behind-places ps qs (line ∷ more) s t.spelled e in
    following ps rest.0 line more (subst AreSpelledPlacings rest.1 t) rest.2
  where
    following : (ps others : List Placing) (line : List ℕ) (more : List (List ℕ)) → AreSpelledPlacings (ps ++ others) → place_lines others ≡ line ∷ more
        → (p : Placing) × (line ≡ line_text (place_elements p)) × AreSpelledPlacings (ps ++ p ∷ [])
    following ps [] line more s e = absurd (omega (arith, ap length e))
    following ps (p ∷ others) line more s e = (
      p,
      sym (ap (λ (ls : List (List ℕ)). get_or ls 0 []) e),
      front-placings (ps ++ p ∷ []) others (subst AreSpelledPlacings (sym (append_assoc ps (p ∷ []) others)) s),
    )
