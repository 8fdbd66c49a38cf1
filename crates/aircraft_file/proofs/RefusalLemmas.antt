-- a lawful envelope and a lawful fuel table have no fault
use Rattle.std.proofs.Common.{◌≡◌, ℕ, suc, ◌+◌, ◌<◌, nat_le, false, List, [], ◌∷◌, length, position, Some, None, option_map, ◌⊎◌, ⊎_elim, inl, inr, refl, sym, ap, ◌∙◌, arith, All, le_antisymm}
use Rattle.std.specs.List.{AllByRecursion, position_or_len}
use Rattle.std.proofs.lemmas.Bool.{lt-leb, le-ltb}
use Rattle.std.proofs.lemmas.List.Elements.{recursion_from_All}
use Rattle.std.proofs.lemmas.Option.{same_Some}
use Rattle.mass_units.specs.declared.line.Line.{Line}
use Rattle.envelope.specs.declared.EnvFault.{EnvFault}
use Rattle.envelope.specs.declared.EnvFault.TheVariants as env
use Rattle.envelope.specs.Edges as sides
use Rattle.envelope.specs.Outline.{Outline, IsApart, CrossesAt, IsEnvelope}
use Rattle.envelope.specs.Refusal as envelope
use Rattle.fuel_table.specs.declared.row.FuelRow.{FuelRow}
use Rattle.fuel_table.specs.declared.FuelFault.{FuelFault}
use Rattle.fuel_table.specs.declared.FuelFault.TheVariants as table
use Rattle.fuel_table.specs.Rows as rows
use Rattle.fuel_table.specs.Refusal as fuel

past_all : (lines : List Line) → AllByRecursion (λ (line : Line). line.from.0 < line.to.0) lines → position_or_len (λ (line : Line). nat_le line.to.0 line.from.0) lines ≡ length lines
past_all [] rising = refl
past_all (line ∷ lines) rising =
    let rises : nat_le line.to.0 line.from.0 ≡ false = lt-leb line.to.0 line.from.0 rising.0 in
    let one_more : 1 + length lines ≡ suc (length lines) = omega arith in
    rw rises (ap (λ n. 1 + n) (past_all lines rising.1) ∙ one_more)

-- lines that all rise have none that falls
no_fall : (lines : List Line) → All (λ (line : Line). line.from.0 < line.to.0) lines → position (λ (line : Line). nat_le line.to.0 line.from.0) lines ≡ None
no_fall lines rising = rw (past_all lines (recursion_from_All (λ (line : Line). line.from.0 < line.to.0) lines rising), le-ltb (length lines) (length lines) (omega arith)) refl

rises_or_falls : (lines : List Line) (at : ℕ) → All (λ (line : Line). line.from.0 < line.to.0) lines → option_map (λ before. before + 1) (position (λ (line : Line). nat_le line.to.0 line.from.0) lines) ≡ Some at → ⊥
rises_or_falls lines at rising fall =
    let none : option_map (λ (before : ℕ). before + 1) (position (λ (line : Line). nat_le line.to.0 line.from.0) lines) ≡ None = ap (option_map (λ before. before + 1)) (no_fall lines rising) in
    absurd (cc (none, fall))

-- ---- envelopes

no_crossing : (o : Outline) (mass : ℕ) → IsApart o → CrossesAt o mass → ⊥
unfolding CrossesAt
no_crossing o mass apart (inl forward) = forward.4.1 (rw forward.3 at (apart.0 forward.0 forward.1 forward.2))
no_crossing o mass apart (inr aft) = aft.4.1 (rw aft.3 at (apart.1 aft.0 aft.1 aft.2))

-- an envelope has no fault
pub envelope_has_no_fault : (fault : EnvFault) (o : Outline) → IsEnvelope o → envelope.IsRefusedFor fault o → ⊥
envelope_has_no_fault env.TooFewCorners o e refused = refused e.counts
envelope_has_no_fault (env.NotRising at) o e refused = ⊎_elim
    (λ fall. rises_or_falls (sides.edges o.forward) at e.rising.0 fall)
    (λ both. rises_or_falls (sides.edges o.aft) at e.rising.1 both.1)
    refused.1
envelope_has_no_fault env.DifferentSpan o e refused = refused.1 e.span
envelope_has_no_fault (env.Crossed mass) o e refused = no_crossing o mass.0 e.apart refused.2

-- the index of the first corner at which a side does not rise
abbrev FallsAt : Outline → ℕ → Type 0
FallsAt o at = (sides.first_fall o.forward ≡ Some at) ⊎ (sides.IsRising o.forward × (sides.first_fall o.aft ≡ Some at))

one_fall : (o : Outline) (a b : ℕ) → FallsAt o a → FallsAt o b → a ≡ b
one_fall o a b (inl f) (inl g) = same_Some a b (sym f ∙ g)
one_fall o a b (inl f) (inr g) = absurd (rises_or_falls (sides.edges o.forward) a g.0 f)
one_fall o a b (inr f) (inl g) = absurd (rises_or_falls (sides.edges o.forward) b f.0 g)
one_fall o a b (inr f) (inr g) = same_Some a b (sym f.1 ∙ g.1)

rising_or_falling : (o : Outline) (at : ℕ) → envelope.BothRise o → FallsAt o at → ⊥
rising_or_falling o at rise (inl f) = rises_or_falls (sides.edges o.forward) at rise.1 f
rising_or_falling o at rise (inr f) = rises_or_falls (sides.edges o.aft) at rise.2 f.1

-- two sides have one fault at most
pub one_envelope_fault : (f g : EnvFault) (o : Outline) → envelope.IsRefusedFor f o → envelope.IsRefusedFor g o → f ≡ g
one_envelope_fault env.TooFewCorners env.TooFewCorners o h k = refl
one_envelope_fault env.TooFewCorners (env.NotRising b) o h k = absurd (h k.0)
one_envelope_fault env.TooFewCorners env.DifferentSpan o h k = absurd (h k.0.0)
one_envelope_fault env.TooFewCorners (env.Crossed n) o h k = absurd (h k.0.0)
one_envelope_fault (env.NotRising a) env.TooFewCorners o h k = absurd (k h.0)
one_envelope_fault (env.NotRising a) (env.NotRising b) o h k = ap env.NotRising (one_fall o a b h.1 k.1)
one_envelope_fault (env.NotRising a) env.DifferentSpan o h k = absurd (rising_or_falling o a k.0 h.1)
one_envelope_fault (env.NotRising a) (env.Crossed n) o h k = absurd (rising_or_falling o a k.0 h.1)
one_envelope_fault env.DifferentSpan env.TooFewCorners o h k = absurd (k h.0.0)
one_envelope_fault env.DifferentSpan (env.NotRising b) o h k = absurd (rising_or_falling o b h.0 k.1)
one_envelope_fault env.DifferentSpan env.DifferentSpan o h k = refl
one_envelope_fault env.DifferentSpan (env.Crossed n) o h k = absurd (h.1 k.1)
one_envelope_fault (env.Crossed m) env.TooFewCorners o h k = absurd (k h.0.0)
one_envelope_fault (env.Crossed m) (env.NotRising b) o h k = absurd (rising_or_falling o b h.0 k.1)
one_envelope_fault (env.Crossed m) env.DifferentSpan o h k = absurd (k.1 h.1)
one_envelope_fault (env.Crossed m) (env.Crossed n) o h k =
    let least : m.0 ≡ n.0 = le_antisymm (h.3 n.0 k.2) (k.3 m.0 h.2) in
    let made : ℕ → EnvFault = λ mass. env.Crossed (record { 0 = mass }) in ap made least

-- ---- fuel tables

pub fuel_has_no_fault : (fault : FuelFault) (xs : List FuelRow) → rows.IsTable xs → fuel.IsRefusedFor fault xs → ⊥
fuel_has_no_fault table.Empty xs t refused = omega (arith, t.some, ap length refused)
fuel_has_no_fault (table.NotRising at) xs t refused = rises_or_falls (rows.lines xs) at t.rising refused
fuel_has_no_fault table.TooMany xs t refused = omega (arith, t.most, refused.1)

pub one_fuel_fault : (f g : FuelFault) (xs : List FuelRow) → fuel.IsRefusedFor f xs → fuel.IsRefusedFor g xs → f ≡ g
one_fuel_fault table.Empty table.Empty xs h k = refl
one_fuel_fault table.Empty (table.NotRising b) xs h k = let none : rows.first_fall xs ≡ None = ap rows.first_fall h in absurd (cc (none, k))
one_fuel_fault table.Empty table.TooMany xs h k = absurd (omega (arith, ap length h, k.1))
one_fuel_fault (table.NotRising a) table.Empty xs h k = let none : rows.first_fall xs ≡ None = ap rows.first_fall k in absurd (cc (none, h))
one_fuel_fault (table.NotRising a) (table.NotRising b) xs h k = ap table.NotRising (same_Some a b (sym h ∙ k))
one_fuel_fault (table.NotRising a) table.TooMany xs h k = absurd (rises_or_falls (rows.lines xs) a k.0 h)
one_fuel_fault table.TooMany table.Empty xs h k = absurd (omega (arith, ap length k, h.1))
one_fuel_fault table.TooMany (table.NotRising b) xs h k = absurd (rises_or_falls (rows.lines xs) b h.0 k)
one_fuel_fault table.TooMany table.TooMany xs h k = refl
