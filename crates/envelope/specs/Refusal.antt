-- Why two lists of corners do not make an envelope: the first reason, in the order of the faults.
use Rattle.std.specs.Prelude.{◌≡◌, ℕ, ◌≤◌, ◌⊎◌, Some}
use Rattle.envelope.specs.declared.EnvFault.{EnvFault}
use Rattle.envelope.specs.declared.EnvFault.TheVariants.{TooFewCorners, NotRising, DifferentSpan, Crossed}
use Rattle.envelope.specs.Edges.{IsRising, first_fall}
use Rattle.envelope.specs.Outline.{Outline, HasCorners, SameSpan, CrossesAt}

-- both sides have 2 to 64 corners
abbrev pub BothHaveCorners : Outline → Type 0
BothHaveCorners outline = HasCorners outline.forward × HasCorners outline.aft

-- and in both each corner has a greater mass than the one before it
abbrev pub BothRise : Outline → Type 0
BothRise outline = BothHaveCorners outline × IsRising outline.forward × IsRising outline.aft

abbrev pub IsRefusedFor : EnvFault → Outline → Type 0
IsRefusedFor TooFewCorners outline = ¬ (BothHaveCorners outline)
IsRefusedFor (NotRising at) outline =
    BothHaveCorners outline × ((first_fall outline.forward ≡ Some at) ⊎ (IsRising outline.forward × (first_fall outline.aft ≡ Some at)))
IsRefusedFor DifferentSpan outline = BothRise outline × ¬ (SameSpan outline)
-- the mass is the least at which the sides cross
IsRefusedFor (Crossed mass) outline =
    BothRise outline × SameSpan outline × CrossesAt outline mass.0 × ((other : ℕ) → CrossesAt outline other → mass.0 ≤ other)
