-- Rows of a fuel table: the lines between them follow one another, and span from the first row to the last.
use Rattle.std.proofs.Common.{◌≡◌, ℕ, ◌<◌, ◌≤◌, ◌↔◌, inl, inr, List, [], ◌∷◌, ◌++◌, length, get_or, refl, arith, All, Any, Option, Some, None, IfSome, IfNone, ◌≢◌, ℤ, IsNone, rules, length-append}
use Rattle.std.proofs.lemmas.List.{get_or_at}
use Rattle.mass_units.specs.declared.Ticks.{Ticks}
use Rattle.std.proofs.lemmas.Bool.{cases_lt}
use Rattle.std.proofs.lemmas.List.Elements.{All-nil, All-cons, All-head, All-tail}
use Rattle.mass_units.specs.declared.line.Line.{Line}
use Rattle.mass_units.specs.Line.{Spans, IsFloor}
use Rattle.mass_units.specs.Polyline.{line_between}
use Rattle.mass_units.proofs.PolylineLemmas.{rising_head, rising_tail}
use Rattle.fuel_table.specs.declared.row.FuelRow.{FuelRow}
use Rattle.fuel_table.specs.Rows.{point_of, lines, IsRising, IsOutside, IsFuelIndex}

-- ---- rising rows

-- the line from one row to the next
abbrev line : FuelRow → FuelRow → Line
line a b = line_between (point_of a) (point_of b)

-- a fuel below the first row is below each
below_each : (a : FuelRow) (rows : List FuelRow) (fuel : ℕ) → IsRising (a ∷ rows) → fuel < a.fuel.0 → All (λ r. fuel < r.fuel.0) (a ∷ rows)
below_each a [] fuel rising below = All-cons (λ r. fuel < r.fuel.0) a [] below (All-nil (λ r. fuel < r.fuel.0))
below_each a (b ∷ rows) fuel rising below =
    All-cons (λ r. fuel < r.fuel.0) a (b ∷ rows) below (below_each b rows fuel (rising_tail point_of a b rows rising) (omega (arith, rising_head point_of a b rows rising)))

past : (a b : FuelRow) (fuel : ℕ) → ¬ (Spans (line a b) fuel) → a.fuel.0 ≤ fuel → b.fuel.0 < fuel
past a b fuel out above =
    elim (cases_lt b.fuel.0 fuel) [ inl lt ↦ lt | inr le ↦ absurd (out (above, le)) ]

-- a fuel above the first row that no line spans is above each
above_each : (a : FuelRow) (rows : List FuelRow) (fuel : ℕ) → IsRising (a ∷ rows) → a.fuel.0 < fuel → All (λ l. ¬ (Spans l fuel)) (lines (a ∷ rows)) → All (λ r. r.fuel.0 < fuel) (a ∷ rows)
above_each a [] fuel rising above apart = All-cons (λ r. r.fuel.0 < fuel) a [] above (All-nil (λ r. r.fuel.0 < fuel))
above_each a (b ∷ rows) fuel rising above apart =
    let out = All-head (λ l. ¬ (Spans l fuel)) (line a b) (lines (b ∷ rows)) apart in
    let later : b.fuel.0 < fuel = past a b fuel out (omega arith) in
    All-cons (λ r. r.fuel.0 < fuel) a (b ∷ rows) above
    (above_each b rows fuel (rising_tail point_of a b rows rising) later (All-tail (λ l. ¬ (Spans l fuel)) (line a b) (lines (b ∷ rows)) apart))

-- two rows or more, and no line that spans the fuel
pub outside_from_none : (a b : FuelRow) (rows : List FuelRow) (fuel : ℕ) → IsRising (a ∷ b ∷ rows) → All (λ l. ¬ (Spans l fuel)) (lines (a ∷ b ∷ rows)) → IsOutside (a ∷ b ∷ rows) fuel
outside_from_none a b rows fuel rising apart =
    elim (cases_lt fuel a.fuel.0) [
      | inl lt ↦ inl (below_each a (b ∷ rows) fuel rising lt)
      | inr le ↦ let later = past a b fuel (All-head (λ l. ¬ (Spans l fuel)) (line a b) (lines (b ∷ rows)) apart) le in
          inr (above_each a (b ∷ rows) fuel rising (omega (arith, later, rising_head point_of a b rows rising)) apart)
    ]

apart_below : (rows : List FuelRow) (fuel : ℕ) → All (λ r. fuel < r.fuel.0) rows → All (λ l. ¬ (Spans l fuel)) (lines rows)
apart_below [] fuel below = All-nil (λ l. ¬ (Spans l fuel))
apart_below (a ∷ []) fuel below = All-nil (λ l. ¬ (Spans l fuel))
apart_below (a ∷ b ∷ rows) fuel below =
    let first = All-head (λ r. fuel < r.fuel.0) a (b ∷ rows) below in
    All-cons (λ l. ¬ (Spans l fuel)) (line a b) (lines (b ∷ rows)) (λ s. omega (arith, s)) (apart_below (b ∷ rows) fuel (All-tail (λ r. fuel < r.fuel.0) a (b ∷ rows) below))

apart_above : (rows : List FuelRow) (fuel : ℕ) → All (λ r. r.fuel.0 < fuel) rows → All (λ l. ¬ (Spans l fuel)) (lines rows)
apart_above [] fuel above = All-nil (λ l. ¬ (Spans l fuel))
apart_above (a ∷ []) fuel above = All-nil (λ l. ¬ (Spans l fuel))
apart_above (a ∷ b ∷ rows) fuel above =
    let rest = All-tail (λ r. r.fuel.0 < fuel) a (b ∷ rows) above in
    let second = All-head (λ r. r.fuel.0 < fuel) b rows rest in
    All-cons (λ l. ¬ (Spans l fuel)) (line a b) (lines (b ∷ rows)) (λ s. omega (arith, s)) (apart_above (b ∷ rows) fuel rest)

-- a spanned fuel lies between two rows
pub within_from_some : (rows : List FuelRow) (fuel : ℕ) → Any (λ l. Spans l fuel) (lines rows) → ¬ (IsOutside rows fuel)
within_from_some rows fuel found (inl below) = apart_below rows fuel below found.0 found.1 found.2 (rw found.3 found.4)
within_from_some rows fuel found (inr above) = apart_above rows fuel above found.0 found.1 found.2 (rw found.3 found.4)

-- ---- the index, by the number of rows

pub one_some : (rows : List FuelRow) (d : FuelRow) (fuel : ℕ) (r : Option Ticks) → length rows ≡ 1 → IfSome r (λ n. ((get_or rows 0 d).fuel.0 ≡ fuel) × ((get_or rows 0 d).index.0 ≡ n.0)) → IfSome r (λ n. IsFuelIndex rows fuel n.0)
unfolding IsFuelIndex
one_some [] d fuel r one found = absurd (omega arith)
one_some (row ∷ []) d fuel None one found = tt
one_some (row ∷ []) d fuel (Some n) one found = found
one_some (a ∷ b ∷ rows) d fuel r one found = absurd (omega arith)

pub one_none : (rows : List FuelRow) (d : FuelRow) (fuel : ℕ) (r : Option Ticks) → length rows ≡ 1 → IfNone r ((get_or rows 0 d).fuel.0 ≢ fuel) → IfNone r ((n : ℤ) → ¬ (IsFuelIndex rows fuel n))
unfolding IsFuelIndex
one_none [] d fuel r one found = absurd (omega arith)
one_none (row ∷ []) d fuel None one found = λ n h. found h.0
one_none (row ∷ []) d fuel (Some n) one found = tt
one_none (a ∷ b ∷ rows) d fuel r one found = absurd (omega arith)

pub one_outside : (rows : List FuelRow) (d : FuelRow) (fuel : ℕ) (r : Option Ticks) → length rows ≡ 1 → IfSome r (λ n. ((get_or rows 0 d).fuel.0 ≡ fuel) × ((get_or rows 0 d).index.0 ≡ n.0)) → IfNone r ((get_or rows 0 d).fuel.0 ≢ fuel) → IsNone r ↔ IsOutside rows fuel
one_outside [] d fuel r one found missed = absurd (omega arith)
one_outside (row ∷ []) d fuel None one found missed = (
  λ _. elim (cases_lt fuel row.fuel.0) [
    | inl lt ↦ inl (All-cons (λ r. fuel < r.fuel.0) row [] lt (All-nil (λ r. fuel < r.fuel.0)))
    | inr le ↦ inr (All-cons (λ r. r.fuel.0 < fuel) row [] (omega (arith, missed)) (All-nil (λ r. r.fuel.0 < fuel)))
  ],
  λ _. search rules,
)
one_outside (row ∷ []) d fuel (Some n) one found missed = (
  λ h. absurd (search rules),
  λ h. absurd (elim h [
    | inl below ↦ omega (arith, All-head (λ r. fuel < r.fuel.0) row [] below, found.0)
    | inr above ↦ omega (arith, All-head (λ r. r.fuel.0 < fuel) row [] above, found.0)
  ]),
)
one_outside (a ∷ b ∷ rows) d fuel r one found missed = absurd (omega arith)

pub many_some : (rows : List FuelRow) (fuel : ℕ) (r : Option Ticks) → 2 ≤ length rows → IfSome r (λ n. Any (λ line. Spans line fuel) (lines rows) × All (λ line. Spans line fuel → IsFloor line fuel n.0) (lines rows)) → IfSome r (λ n. IsFuelIndex rows fuel n.0)
unfolding IsFuelIndex
many_some [] fuel r many found = absurd (omega arith)
many_some (row ∷ []) fuel r many found = absurd (omega arith)
many_some (a ∷ b ∷ rows) fuel r many found = found

pub many_none : (rows : List FuelRow) (fuel : ℕ) (r : Option Ticks) → 2 ≤ length rows → IfNone r (All (λ line. ¬ (Spans line fuel)) (lines rows)) → IfNone r ((n : ℤ) → ¬ (IsFuelIndex rows fuel n))
unfolding IsFuelIndex
many_none [] fuel r many missed = absurd (omega arith)
many_none (row ∷ []) fuel r many missed = absurd (omega arith)
many_none (a ∷ b ∷ rows) fuel None many missed = λ n h. missed h.0.0 h.0.1 h.0.2 (rw h.0.3 h.0.4)
many_none (a ∷ b ∷ rows) fuel (Some n) many missed = tt

pub many_outside : (rows : List FuelRow) (fuel : ℕ) (r : Option Ticks) → 2 ≤ length rows → IsRising rows → IfSome r (λ n. Any (λ line. Spans line fuel) (lines rows) × All (λ line. Spans line fuel → IsFloor line fuel n.0) (lines rows)) → IfNone r (All (λ line. ¬ (Spans line fuel)) (lines rows)) → IsNone r ↔ IsOutside rows fuel
many_outside [] fuel r many rising found missed = absurd (omega arith)
many_outside (row ∷ []) fuel r many rising found missed = absurd (omega arith)
many_outside (a ∷ b ∷ rows) fuel None many rising found missed = (λ _. outside_from_none a b rows fuel rising missed, λ _. search rules)
many_outside (a ∷ b ∷ rows) fuel (Some n) many rising found missed =
    (λ h. absurd (search rules), λ h. absurd (within_from_some (a ∷ b ∷ rows) fuel found.0 h))

pub Any-at : (P : Line → Type 0) (before : List Line) (l : Line) (rest : List Line) → P l → Any P (before ++ l ∷ rest)
Any-at P before l rest holds =
    (length before, l, omega (arith, length-append before (l ∷ rest)), get_or_at before l rest l (length before) refl, holds)
