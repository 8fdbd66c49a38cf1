-- A corner lies on its own side, whichever of its edges one looks at.
use Rattle.std.proofs.Common.{◌≡◌, suc, ◌-◌, ◌<◌, ◌≤◌, List, [], ◌∷◌, length, get_or, refl, ap, ◌∙◌, arith, ℤ, pos, ◌-ℤ◌, ◌*ℤ◌, All, Any}
use Rattle.std.specs.Int.Signed.{≤ℤ_refl}
use Rattle.std.proofs.lemmas.Int.{ints}
use Rattle.std.proofs.Math.IntN.{*ℤ-zero, zero-*ℤ}
use Rattle.std.proofs.lemmas.List.Elements.{All-nil, All-cons, All-weaker}
use Rattle.mass_units.specs.declared.line.Line.{Line}
use Rattle.mass_units.specs.Line.{Spans, IsOnOrAft, IsOnOrForward}
use Rattle.mass_units.specs.Polyline.{line_between}
use Rattle.mass_units.proofs.ChainLemmas.{chain_later}
use Rattle.mass_units.proofs.PolylineLemmas.{rising_head, rising_tail, IsRising-chain}
use Rattle.envelope.specs.declared.corner.Corner.{Corner}
use Rattle.envelope.specs.Edges.{point_of, edges, IsRising, IsOnOrAftOf, IsOnOrForwardOf}
use Rattle.envelope.specs.Outline.{Outline, IsEnvelope, AreInside}

-- the edge from one corner to the next
abbrev edge : Corner → Corner → Line
edge a b = line_between (point_of a) (point_of b)

-- the corner lies on the edge
abbrev IsOn : Line → Corner → Type 0
IsOn line corner = IsOnOrAft line corner.mass.0 corner.index.0 × IsOnOrForward line corner.mass.0 corner.index.0

on_end : (a b : Corner) → IsOn (edge a b) b
on_end a b =
    let x : ℤ = (b.index.0 -ℤ a.index.0) *ℤ pos (b.mass.0 - a.mass.0) in
    (≤ℤ_refl x, ≤ℤ_refl x)

on_start : (a b : Corner) → IsOn (edge a b) a
on_start a b =
    let flat : a.mass.0 - a.mass.0 ≡ 0 = omega arith in
    let level : a.index.0 -ℤ a.index.0 ≡ pos 0 = omega (arith, ints) in
    let left : (b.index.0 -ℤ a.index.0) *ℤ pos (a.mass.0 - a.mass.0) ≡ pos 0 = ap (λ n. (b.index.0 -ℤ a.index.0) *ℤ pos n) flat ∙ *ℤ-zero (b.index.0 -ℤ a.index.0) in
    let right : (a.index.0 -ℤ a.index.0) *ℤ pos (b.mass.0 - a.mass.0) ≡ pos 0 = ap (λ z. z *ℤ pos (b.mass.0 - a.mass.0)) level ∙ zero-*ℤ (pos (b.mass.0 - a.mass.0)) in
    (omega (arith, ints), omega (arith, ints))

above : (a : Corner) (rest : List Corner) → IsRising (a ∷ rest) → All (λ c. a.mass.0 < c.mass.0) rest
above a [] rising = All-nil (λ c. a.mass.0 < c.mass.0)
above a (b ∷ rest) rising =
    let first = rising_head point_of a b rest rising in
    All-cons (λ c. a.mass.0 < c.mass.0) b rest first
    (All-weaker (λ c. b.mass.0 < c.mass.0) (λ c. a.mass.0 < c.mass.0) (λ c h. omega arith) rest (above b rest (rising_tail point_of a b rest rising)))

-- each corner lies on each edge that spans its mass
own_edges : (corners : List Corner) → IsRising corners → All (λ c. All (λ e. Spans e c.mass.0 → IsOn e c) (edges corners)) corners
own_edges [] rising = All-nil (λ c. All (λ e. Spans e c.mass.0 → IsOn e c) [])
own_edges (a ∷ []) rising =
    All-cons (λ c. All (λ e. Spans e c.mass.0 → IsOn e c) []) a [] (All-nil (λ e. Spans e a.mass.0 → IsOn e a)) (All-nil (λ c. All (λ e. Spans e c.mass.0 → IsOn e c) []))
own_edges (a ∷ b ∷ rest) rising =
    let first = rising_head point_of a b rest rising in
    let later = rising_tail point_of a b rest rising in
    let apart = chain_later (edge a b) (edges (b ∷ rest)) (IsRising-chain point_of (a ∷ b ∷ rest) rising) in
    let at_head : All (λ e. Spans e a.mass.0 → IsOn e a) (edges (a ∷ b ∷ rest)) =
    All-cons (λ e. Spans e a.mass.0 → IsOn e a) (edge a b) (edges (b ∷ rest)) (λ s. on_start a b)
    (All-weaker (λ e. b.mass.0 ≤ e.from.0) (λ e. Spans e a.mass.0 → IsOn e a) (λ e h s. absurd (omega (arith, s))) (edges (b ∷ rest)) apart) in
    let first_edge : All (λ c. Spans (edge a b) c.mass.0 → IsOn (edge a b) c) (b ∷ rest) =
    All-cons (λ c. Spans (edge a b) c.mass.0 → IsOn (edge a b) c) b rest (λ s. on_end a b)
    (All-weaker (λ c. b.mass.0 < c.mass.0) (λ c. Spans (edge a b) c.mass.0 → IsOn (edge a b) c) (λ c h s. absurd (omega (arith, s))) rest (above b rest later)) in
    let others = own_edges (b ∷ rest) later in
    All-cons (λ c. All (λ e. Spans e c.mass.0 → IsOn e c) (edges (a ∷ b ∷ rest))) a (b ∷ rest) at_head
    (λ k d l. let c : Corner = get_or (b ∷ rest) k d in All-cons (λ e. Spans e c.mass.0 → IsOn e c) (edge a b) (edges (b ∷ rest)) (first_edge k d l) (others k d l))

Any-there : {X : Type 0} (P : X → Type 0) (x : X) (xs : List X) → Any P xs → Any P (x ∷ xs)
Any-there P x xs found = (suc found.0, found.1, omega (arith, found.2), found.3, found.4)

Any-here : {X : Type 0} (P : X → Type 0) (x : X) (xs : List X) → P x → Any P (x ∷ xs)
Any-here P x xs holds = (0, x, omega arith, refl, holds)

-- some edge spans the mass of each corner
own_spanned : (a b : Corner) (rest : List Corner) → IsRising (a ∷ b ∷ rest) → All (λ c. Any (λ e. Spans e c.mass.0) (edges (a ∷ b ∷ rest))) (a ∷ b ∷ rest)
own_spanned a b [] rising =
    let first = rising_head point_of a b [] rising in
    All-cons (λ c. Any (λ e. Spans e c.mass.0) (edges (a ∷ b ∷ []))) a (b ∷ []) (Any-here (λ e. Spans e a.mass.0) (edge a b) [] (omega arith, omega arith))
    (All-cons (λ c. Any (λ e. Spans e c.mass.0) (edges (a ∷ b ∷ []))) b [] (Any-here (λ e. Spans e b.mass.0) (edge a b) [] (omega arith, omega arith)) (All-nil (λ c. Any (λ e. Spans e c.mass.0) (edges (a ∷ b ∷ [])))))
own_spanned a b (c ∷ rest) rising =
    let first = rising_head point_of a b (c ∷ rest) rising in
    let others = own_spanned b c rest (rising_tail point_of a b (c ∷ rest) rising) in
    All-cons (λ d. Any (λ e. Spans e d.mass.0) (edges (a ∷ b ∷ c ∷ rest))) a (b ∷ c ∷ rest) (Any-here (λ e. Spans e a.mass.0) (edge a b) (edges (b ∷ c ∷ rest)) (omega arith, omega arith))
    (λ k d l. let f : Corner = get_or (b ∷ c ∷ rest) k d in Any-there (λ e. Spans e f.mass.0) (edge a b) (edges (b ∷ c ∷ rest)) (others k d l))

own_side : (corners : List Corner) → 2 ≤ length corners → IsRising corners → All (λ c. IsOnOrAftOf corners c.mass.0 c.index.0 × IsOnOrForwardOf corners c.mass.0 c.index.0) corners
unfolding IsOnOrAftOf IsOnOrForwardOf
own_side [] many rising = absurd (omega arith)
own_side (a ∷ []) many rising = absurd (omega arith)
own_side (a ∷ b ∷ rest) many rising = λ k d l.
    let on = own_edges (a ∷ b ∷ rest) rising k d l in
    let spanned = own_spanned a b rest rising k d l in
    ((spanned, λ i e m s. (on i e m s).0), (spanned, λ i e m s. (on i e m s).1))

pub forward_inside : (outline : Outline) → IsEnvelope outline → AreInside outline outline.forward
forward_inside outline lawful = λ k d l.
    ((own_side outline.forward lawful.counts.0.0 lawful.rising.0 k d l).0, lawful.apart.0 k d l)

pub aft_inside : (outline : Outline) → IsEnvelope outline → AreInside outline outline.aft
aft_inside outline lawful = λ k d l.
    (lawful.apart.1 k d l, (own_side outline.aft lawful.counts.1.0 lawful.rising.1 k d l).1)
