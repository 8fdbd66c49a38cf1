-- what is ahead of a prefix, wherever its next container goes
use Rattle.std.specs.Prelude.{◌≡◌, ◌≢◌, ℕ, ◌<◌, ◌≤◌, ℤ, pos, ◌+ℤ◌, ◌-ℤ◌, ◌*ℤ◌, ◌≤ℤ◌, true, false, List, [], ◌∷◌, ◌++◌, length, Some}
use Rattle.hold_parts.specs.declared.parts.Item.{Item}
use Rattle.hold_limits.specs.Layout.{Layout}
use Rattle.hold_limits.specs.Problem.{Problem}
use Rattle.hold_limits.specs.Enumeration.{exclude}
use Rattle.hold_limits.specs.Placement.{placed_moment, hold_index}
use Rattle.hold_reach.specs.declared.span.Span.{Span}
use Rattle.hold_reach.specs.Extents.{IsBounded, IsSpanOfList}
use Rattle.hold_reach.specs.Reach.{amounts, is_open, reach}
use Rattle.hold_partial.specs.declared.ahead.Ahead.{Ahead}
use Rattle.hold_partial.specs.declared.ahead.Extremes.{Extremes}
use Rattle.position_set.specs.declared.set.PositionSet.{PositionSet}
use Rattle.position_set.specs.Sets.{has}

-- two open positions of a container, of which the first has its least moment and the last its greatest
pub record AreExtremes (t : Problem) (prefix : List ℕ) (item : Item) (e : Extremes) : Type 0 where
  pub first : is_open t prefix item e.first ≡ true
  pub last : is_open t prefix item e.last ≡ true
  pub between : (q : ℕ) → is_open t prefix item q ≡ true
      → (placed_moment t.hold (item, e.first) ≤ℤ placed_moment t.hold (item, q)) × (placed_moment t.hold (item, q) ≤ℤ placed_moment t.hold (item, e.last))
  pub low : e.span.low ≡ placed_moment t.hold (item, e.first)
  pub high : e.span.high ≡ placed_moment t.hold (item, e.last)

-- a container on the position leaves these positions as they are: it is none of them, and excludes none
abbrev pub Spares : Layout → PositionSet → ℕ → Type 0
Spares hold ends q = (a : ℕ) → has ends a ≡ true → (a ≢ q) × (exclude hold a q ≡ false)

-- the span goes from the least to the greatest moment that a twin of the container can have once that stands on the position
abbrev pub IsSpanOfTwin : Problem → List ℕ → Item → ℕ → Span → Type 0
IsSpanOfTwin t prefix item q each = IsSpanOfList (amounts t (is_open t (prefix ++ q ∷ [])) (placed_moment t.hold) item) (Some each)

-- an end of the reach ahead, moved by the moment of the next container on the position and by what its twins add
abbrev pub moved : Problem → List ℕ → ℕ → ℕ → ℤ → ℤ → ℤ
moved t prefix q twins each end = ((end -ℤ hold_index t prefix) +ℤ hold_index t (prefix ++ q ∷ [])) +ℤ pos twins *ℤ each

-- where the next container spares the ends, the reach is what is ahead, with the moment of that container and those of its twins
pub record IsAhead (t : Problem) (prefix : List ℕ) (item : Item) (ahead : Ahead) : Type 0 where
  pub known : (a : ℕ) → has ahead.ends a ≡ true → a < length t.hold.positions
  pub few : ahead.twins ≤ 60
  pub reach : (q : ℕ) (each : Span) → Spares t.hold ahead.ends q → (0 < ahead.twins → IsSpanOfTwin t prefix item q each)
      → reach t (prefix ++ q ∷ []) ≡ Some (moved t prefix q ahead.twins each.low ahead.reach.low, moved t prefix q ahead.twins each.high ahead.reach.high)
  pub bounded : IsBounded 368000000000 ahead.reach
