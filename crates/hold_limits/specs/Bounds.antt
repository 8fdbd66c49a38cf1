-- the rules that a lawful hold and a lawful task keep: no fault is found exactly where they are kept
use Rattle.std.specs.Prelude.{◌≡◌, ◌≢◌, ℕ, ◌<◌, ◌≤◌, ◌≤ℤ◌, ◌⊎◌, unsigned_abs, Bool, true, false, List, [], length, All, AllPairs}
use Rattle.hold_parts.specs.declared.lists.Fit.{Fit}
use Rattle.hold_parts.specs.declared.parts.Position.{Position}
use Rattle.hold_parts.specs.declared.parts.Combined.{Combined}
use Rattle.hold_parts.specs.declared.parts.Cumulative.{Cumulative}
use Rattle.hold_parts.specs.declared.parts.Item.{Item}
use Rattle.hold_parts.specs.declared.parts.Loose.{Loose}
use Rattle.hold_limits.specs.Layout.{Layout}
use Rattle.hold_limits.specs.Lateral.{sides_of}
use Rattle.hold_limits.specs.Problem.{Problem}
use Rattle.hold_limits.specs.Faults.{is_bulk}

-- a bulk position accepts no kinds, and another accepts 1 to 16
abbrev pub HasUpTo16Kinds : Bool → List Fit → Type 0
HasUpTo16Kinds true fits = fits ≡ []
HasUpTo16Kinds false fits = (1 ≤ length fits) × (length fits ≤ 16)

-- the greatest mass of a container is 1 to 20,000 kg
abbrev pub IsContainerMass : Fit → Type 0
IsContainerMass fit = (1 ≤ fit.most.0) × (fit.most.0 ≤ 20000)

-- the pairs have the same two positions, in either order
abbrev pub SamePair : ℕ × ℕ → ℕ × ℕ → Type 0
SamePair a b = ((a.0 ≡ b.0) × (a.1 ≡ b.1)) ⊎ ((a.0 ≡ b.1) × (a.1 ≡ b.0))

-- of a hold
pub record KeepsHoldRules (h : Layout) : Type 0 where
  -- 1 to 64 positions with different names, of at most 100,000 ticks for a kilogram
  pub some_position : 0 < length h.positions
  pub positions : length h.positions ≤ 64
  pub names : AllPairs (λ (a b : Position). a.name ≢ b.name) h.positions
  pub influences : All (λ (position : Position). unsigned_abs position.influence ≤ 100000) h.positions
  -- each with its kinds, all different, of 1 to 20,000 kg
  pub kinds : All (λ (position : Position). HasUpTo16Kinds position.bulk position.fits) h.positions
  pub different_kinds : All (λ (position : Position). AllPairs (λ (a b : Fit). a.kind ≢ b.kind) position.fits) h.positions
  pub masses : All (λ (position : Position). All IsContainerMass position.fits) h.positions
  -- at most 256 excluding pairs, 64 combined and 128 cumulative limits
  pub few_excludes : length h.excludes ≤ 256
  pub few_combined : length h.combined ≤ 64
  pub few_cumulative : length h.cumulative ≤ 128
  -- an excluding pair is of two positions of the hold, neither of them bulk, and given once
  pub excludes : All (λ (pair : ℕ × ℕ). (pair.0 < length h.positions) × (pair.1 < length h.positions)) h.excludes
  pub excludes_two : All (λ (pair : ℕ × ℕ). pair.0 ≢ pair.1) h.excludes
  pub excludes_no_bulk : All (λ (pair : ℕ × ℕ). (is_bulk h.positions pair.0 ≡ false) × (is_bulk h.positions pair.1 ≡ false)) h.excludes
  pub excludes_once : AllPairs (λ (earlier later : ℕ × ℕ). SamePair earlier later → ⊥) h.excludes
  -- a combined limit is of at least one position of the hold, in strictly rising order, and a cumulative one of a position of the hold
  pub combined : All (λ (limit : Combined). (1 ≤ length limit.places) × All (λ q. q < length h.positions) limit.places) h.combined
  pub combined_rising : All (λ (limit : Combined). AllPairs (λ a b. a < b) limit.places) h.combined
  pub cumulative : All (λ (limit : Cumulative). limit.place < length h.positions) h.cumulative
  -- the sides are of positions of the hold, in strictly rising order
  pub sides : All (λ (side : ℕ × Bool). side.0 < length h.positions) (sides_of h)
  pub sides_rising : AllPairs (λ (a b : ℕ × Bool). a.0 < b.0) (sides_of h)

-- of a task over a lawful hold
pub record KeepsTaskRules (t : Problem) : Type 0 where
  -- the hold has 1 to 64 positions, of at most 100,000 ticks for a kilogram
  pub some_position : 0 < length t.hold.positions
  pub positions : length t.hold.positions ≤ 64
  pub influences : All (λ (position : Position). unsigned_abs position.influence ≤ 100000) t.hold.positions
  -- the offer has at most 60 containers with different identities, of at most 20,000 kg
  pub items : length t.items ≤ 60
  pub identities : AllPairs (λ (a b : Item). a.id ≢ b.id) t.items
  pub item_masses : All (λ (item : Item). item.mass.0 ≤ 20000) t.items
  -- the loose loads are at most 64, of at most 20,000 kg, each on a bulk position of the hold and alone on it
  pub loose : length t.loose ≤ 64
  pub loose_masses : All (λ (load : Loose). load.mass.0 ≤ 20000) t.loose
  pub loose_known : All (λ (load : Loose). load.position < length t.hold.positions) t.loose
  pub loose_bulk : All (λ (load : Loose). is_bulk t.hold.positions load.position ≡ true) t.loose
  pub loose_once : AllPairs (λ (a b : Loose). a.position ≢ b.position) t.loose
  -- the indices are within 10,000 index units, and the ends of the ideal band are in order
  pub base : unsigned_abs t.base ≤ 1000000000
  pub low : unsigned_abs t.low ≤ 1000000000
  pub high : unsigned_abs t.high ≤ 1000000000
  pub ideal_low : unsigned_abs t.ideal_low ≤ 1000000000
  pub ideal_high : unsigned_abs t.ideal_high ≤ 1000000000
  pub band : t.ideal_low ≤ℤ t.ideal_high
