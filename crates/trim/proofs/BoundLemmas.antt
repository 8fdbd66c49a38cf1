-- how far the indices of lines reach, and that a fuel has one index
use Rattle.std.proofs.Common.{◌≡◌, ℕ, zero, suc, ◌+◌, ◌-◌, ◌<◌, ◌≤◌, List, [], ◌∷◌, ap, sym, ◌∙◌, subst, arith, All, Any, ℤ, pos, neg_ℤ, ◌+ℤ◌, ◌-ℤ◌, ◌*ℤ◌, ◌≤ℤ◌, ◌<ℤ◌, unsigned_abs}
use Rattle.std.proofs.lemmas.Int.{ints}
use Rattle.std.proofs.lemmas.List.Elements.{All-nil, All-cons, All-head, All-tail}
use Rattle.mass_units.specs.declared.line.Line.{Line}
use Rattle.mass_units.specs.declared.line.Point.{Point}
use Rattle.mass_units.specs.Line.{Spans, IsOnOrAft, IsOnOrForward, scaled_index, IsFloor}
use Rattle.mass_units.specs.Polyline.{line_between, lines}
use Rattle.mass_units.proofs.LineLemmas.{times_le, times_lt, times-add, times-sub, times-sum, times-one}
use Rattle.envelope.specs.Edges as edges
use Rattle.envelope.specs.Outline.{Outline, IsInside, IsEnvelope}
use Rattle.fuel_table.specs.declared.row.FuelRow.{FuelRow}
use Rattle.fuel_table.specs.Rows as rows
use Rattle.aircraft_file.specs.Lawful.{IsFuelRow, AreCorners}

abbrev low : ℤ
low = neg_ℤ (pos 1000000000)

abbrev high : ℤ
high = pos 1000000000

abbrev IsNear : ℤ → Type 0
IsNear z = (low ≤ℤ z) × (z ≤ℤ high)

near-from_abs : (z : ℤ) → unsigned_abs z ≤ 1000000000 → IsNear z
near-from_abs z h = (omega (arith, ints), omega (arith, ints))

abs-from_near : (z : ℤ) → IsNear z → unsigned_abs z ≤ 1000000000
abs-from_near z h = omega (arith, ints, h.0, h.1)

-- One line --------------------------------------------------------------------------------------

-- the ends of the line are near
AreEndsNear : Line → Type 0
AreEndsNear line = IsNear line.at_from.0 × IsNear line.at_to.0

-- what the index at a part of the way amounts to
split_rise : (a b : ℤ) (p d : ℕ) → p ≤ d → ((a *ℤ pos d) +ℤ ((b -ℤ a) *ℤ pos p)) ≡ ((b *ℤ pos p) +ℤ (a *ℤ pos (d - p)))
split_rise a b p d within =
    let whole : p + (d - p) ≡ d = omega arith in
    let all : a *ℤ pos d ≡ (a *ℤ pos p) +ℤ (a *ℤ pos (d - p)) = ap (λ x. a *ℤ pos x) (sym whole) ∙ times-sum a p (d - p) in
    let rise = times-sub b a p in
    omega (arith, ints)

-- a line lies between bounds of its ends
above_low : (a b l : ℤ) (p d : ℕ) → p ≤ d → l ≤ℤ a → l ≤ℤ b → (l *ℤ pos d) ≤ℤ ((a *ℤ pos d) +ℤ ((b -ℤ a) *ℤ pos p))
above_low a b l p d within la lb =
    let whole : p + (d - p) ≡ d = omega arith in
    let all : l *ℤ pos d ≡ (l *ℤ pos p) +ℤ (l *ℤ pos (d - p)) = ap (λ x. l *ℤ pos x) (sym whole) ∙ times-sum l p (d - p) in
    let first = times_le l b p lb in
    let second = times_le l a (d - p) la in
    let split = split_rise a b p d within in
    omega (arith, ints)

below_high : (a b h : ℤ) (p d : ℕ) → p ≤ d → a ≤ℤ h → b ≤ℤ h → ((a *ℤ pos d) +ℤ ((b -ℤ a) *ℤ pos p)) ≤ℤ (h *ℤ pos d)
below_high a b h p d within ah bh =
    let whole : p + (d - p) ≡ d = omega arith in
    let all : h *ℤ pos d ≡ (h *ℤ pos p) +ℤ (h *ℤ pos (d - p)) = ap (λ x. h *ℤ pos x) (sym whole) ∙ times-sum h p (d - p) in
    let first = times_le b h p bh in
    let second = times_le a h (d - p) ah in
    let split = split_rise a b p d within in
    omega (arith, ints)

-- one more of a number of times
next_times : (z : ℤ) (d : ℕ) → (z +ℤ pos 1) *ℤ pos d ≡ (z *ℤ pos d) +ℤ pos d
next_times z d = times-add z (pos 1) d ∙ ap (λ x. (z *ℤ pos d) +ℤ x) (times-one d)

at_most : (a b : ℤ) (d : ℕ) → 0 < d → (a *ℤ pos d) ≤ℤ (b *ℤ pos d) → a ≤ℤ b
at_most a b d some h =
    let next = next_times b d in
    let less : a <ℤ (b +ℤ pos 1) = times_lt a (b +ℤ pos 1) d (omega (arith, ints)) in
    omega (arith, ints)

floor-wide : (s n : ℤ) (d : ℕ) → (n *ℤ pos d) ≤ℤ s → s <ℤ ((n +ℤ pos 1) *ℤ pos d) → 0 < d
floor-wide s n zero lo hi = let next = next_times n zero in absurd (omega (arith, ints))
floor-wide s n (suc d) lo hi = omega arith

floor-near : (line : Line) (mass : ℕ) (n : ℤ) → AreEndsNear line → Spans line mass → IsFloor line mass n → IsNear n
unfolding AreEndsNear
floor-near line mass n ends spans floor =
    let d : ℕ = line.to.0 - line.from.0 in
    let p : ℕ = mass - line.from.0 in
    let within : p ≤ d = omega (arith, spans.0, spans.1) in
    let wide : 0 < d = floor-wide (scaled_index line mass) n d floor.0 floor.1 in
    let lo = above_low line.at_from.0 line.at_to.0 low p d within ends.0.0 ends.1.0 in
    let hi = below_high line.at_from.0 line.at_to.0 high p d within ends.0.1 ends.1.1 in
    let less : low <ℤ (n +ℤ pos 1) = times_lt low (n +ℤ pos 1) d (omega (arith, ints, floor.1)) in
    (omega (arith, ints), at_most n high d wide (omega (arith, ints, floor.0)))

floor-once : (s n m : ℤ) (d : ℕ) → (n *ℤ pos d) ≤ℤ s → s <ℤ ((n +ℤ pos 1) *ℤ pos d) → (m *ℤ pos d) ≤ℤ s → s <ℤ ((m +ℤ pos 1) *ℤ pos d) → n ≡ m
floor-once s n m d nlo nhi mlo mhi =
    let below : n <ℤ (m +ℤ pos 1) = times_lt n (m +ℤ pos 1) d (omega (arith, ints)) in
    let above : m <ℤ (n +ℤ pos 1) = times_lt m (n +ℤ pos 1) d (omega (arith, ints)) in
    omega (arith, ints)

aft-near : (line : Line) (mass : ℕ) (z : ℤ) → AreEndsNear line → line.from.0 < line.to.0 → Spans line mass → IsOnOrAft line mass z → low ≤ℤ z
unfolding AreEndsNear
aft-near line mass z ends rising spans on =
    let d : ℕ = line.to.0 - line.from.0 in
    let p : ℕ = mass - line.from.0 in
    let within : p ≤ d = omega (arith, spans.0, spans.1) in
    let lo = above_low line.at_from.0 line.at_to.0 low p d within ends.0.0 ends.1.0 in
    let rise = times-sub z line.at_from.0 d in
    at_most low z d (omega arith) (omega (arith, ints))

forward-near : (line : Line) (mass : ℕ) (z : ℤ) → AreEndsNear line → line.from.0 < line.to.0 → Spans line mass → IsOnOrForward line mass z → z ≤ℤ high
unfolding AreEndsNear
forward-near line mass z ends rising spans on =
    let d : ℕ = line.to.0 - line.from.0 in
    let p : ℕ = mass - line.from.0 in
    let within : p ≤ d = omega (arith, spans.0, spans.1) in
    let hi = below_high line.at_from.0 line.at_to.0 high p d within ends.0.1 ends.1.1 in
    let rise = times-sub z line.at_from.0 d in
    at_most z high d (omega arith) (omega (arith, ints))

-- All lines -------------------------------------------------------------------------------------

lines-near : {A : Type 0} (point : A → Point) (xs : List A) → All (λ x. unsigned_abs (point x).index.0 ≤ 1000000000) xs → All AreEndsNear (lines point xs)
unfolding AreEndsNear
lines-near point [] near = All-nil AreEndsNear
lines-near point (a ∷ []) near = All-nil AreEndsNear
lines-near {A} point (a ∷ b ∷ rest) near =
    let P : A → Type 0 = λ x. unsigned_abs (point x).index.0 ≤ 1000000000 in
    let later = All-tail P a (b ∷ rest) near in
    All-cons AreEndsNear (line_between (point a) (point b)) (lines point (b ∷ rest))
    (near-from_abs _ (All-head P a (b ∷ rest) near), near-from_abs _ (All-head P b rest later))
    (lines-near point (b ∷ rest) later)

-- the line that spans the mass, and what holds of each line
spanning : {X : Type 0} (P Q : X → Type 0) (xs : List X) → Any P xs → All Q xs → (x : X) × P x × Q x
spanning P Q xs found every = (found.1, found.4, subst Q found.3 (every found.0 found.1 found.2))

both : {X : Type 0} (P Q : X → Type 0) (xs : List X) → All P xs → All Q xs → All (λ x. P x × Q x) xs
both P Q xs p q k d within = (p k d within, q k d within)

-- Envelopes and fuel tables ---------------------------------------------------------------------

inside-near : (o : Outline) (mass : ℕ) (z : ℤ) → IsEnvelope o → AreCorners o → IsInside o mass z → IsNear z
unfolding edges.IsOnOrAftOf edges.IsOnOrForwardOf
inside-near o mass z lawful corners inside =
    let forward = lines-near edges.point_of o.forward (λ k d within. (corners.0 k d within).1) in
    let aft = lines-near edges.point_of o.aft (λ k d within. (corners.1 k d within).1) in
    let S : Line → Type 0 = λ line. Spans line mass in
    let R : Line → Type 0 = λ line. line.from.0 < line.to.0 in
    let F : Line → Type 0 = λ line. Spans line mass → IsOnOrAft line mass z in
    let B : Line → Type 0 = λ line. Spans line mass → IsOnOrForward line mass z in
    let f = spanning S (λ line. (AreEndsNear line × R line) × F line) (edges.edges o.forward) inside.0.0
    (both (λ line. AreEndsNear line × R line) F (edges.edges o.forward) (both AreEndsNear R (edges.edges o.forward) forward lawful.rising.0) inside.0.1) in
    let b = spanning S (λ line. (AreEndsNear line × R line) × B line) (edges.edges o.aft) inside.1.0
    (both (λ line. AreEndsNear line × R line) B (edges.edges o.aft) (both AreEndsNear R (edges.edges o.aft) aft lawful.rising.1) inside.1.1) in
    (aft-near f.0 mass z f.2.0.0 f.2.0.1 f.1 (f.2.1 f.1), forward-near b.0 mass z b.2.0.0 b.2.0.1 b.1 (b.2.1 b.1))

-- an index inside an envelope of an aircraft is within 10,000 index units
pub inside-bound : (o : Outline) (mass : ℕ) (z : ℤ) → IsEnvelope o → AreCorners o → IsInside o mass z → unsigned_abs z ≤ 1000000000
inside-bound o mass z lawful corners inside = abs-from_near z (inside-near o mass z lawful corners inside)

fuel-near : (table : List FuelRow) (fuel : ℕ) (n : ℤ) → All IsFuelRow table → rows.IsFuelIndex table fuel n → IsNear n
unfolding rows.IsFuelIndex
fuel-near [] fuel n near is = absurd is
fuel-near (row ∷ []) fuel n near is = near-from_abs n (subst (λ (z : ℤ). unsigned_abs z ≤ 1000000000) is.1 (All-head IsFuelRow row [] near).1)
fuel-near (a ∷ b ∷ rest) fuel n near is =
    let ends = lines-near rows.point_of (a ∷ b ∷ rest) (λ k d within. (near k d within).1) in
    let S : Line → Type 0 = λ line. Spans line fuel in
    let F : Line → Type 0 = λ line. Spans line fuel → IsFloor line fuel n in
    let f = spanning S (λ line. AreEndsNear line × F line) (rows.lines (a ∷ b ∷ rest)) is.0 (both AreEndsNear F (rows.lines (a ∷ b ∷ rest)) ends is.1) in
    floor-near f.0 fuel n f.2.0 f.1 (f.2.1 f.1)

-- the index of a fuel is within 10,000 index units, and there is only one
pub fuel-bound : (table : List FuelRow) (fuel : ℕ) (n : ℤ) → All IsFuelRow table → rows.IsFuelIndex table fuel n → unsigned_abs n ≤ 1000000000
fuel-bound table fuel n near is = abs-from_near n (fuel-near table fuel n near is)

pub fuel-once : (table : List FuelRow) (fuel : ℕ) (n m : ℤ) → rows.IsFuelIndex table fuel n → rows.IsFuelIndex table fuel m → n ≡ m
unfolding rows.IsFuelIndex
fuel-once [] fuel n m one other = absurd one
fuel-once (row ∷ []) fuel n m one other = sym one.1 ∙ other.1
fuel-once (a ∷ b ∷ rest) fuel n m one other =
    let S : Line → Type 0 = λ line. Spans line fuel in
    let F : Line → Type 0 = λ line. Spans line fuel → IsFloor line fuel n in
    let G : Line → Type 0 = λ line. Spans line fuel → IsFloor line fuel m in
    let f = spanning S (λ line. F line × G line) (rows.lines (a ∷ b ∷ rest)) one.0 (both F G (rows.lines (a ∷ b ∷ rest)) one.1 other.1) in
    let by_n = f.2.0 f.1 in
    let by_m = f.2.1 f.1 in
    floor-once (scaled_index f.0 fuel) n m (f.0.to.0 - f.0.from.0) by_n.0 by_n.1 by_m.0 by_m.1
