-- good certificates
--
-- A certificate claims that a path is the best, or that none is admissible. Its cuts are prefixes at which a search for a
-- better path turns back. It is good where its claim follows from what it says, so that whoever looks at the prefixes
-- that it leaves need believe nobody.
use Rattle.std.specs.Prelude.{◌≡◌, ◌≢◌, ℕ, ◌<◌, ◌≤◌, List, length, All, AllPairs, Option, Some, None, IfSome, IsSomeAnd}
use Rattle.std.specs.Ordering.{nat_cmp}
use Rattle.std.specs.Cmp.Lexicographic.{slice_cmp}
use Rattle.std.specs.declared.cmp.Ordering.TheVariants.{Less}
use Rattle.base_words.specs.Lists.{Extends}
use Rattle.hold_limits.specs.Problem.{Problem}
use Rattle.hold_limits.specs.Placement.{key, IsAtMost, IsAdmissible}
use Rattle.hold_limits.specs.Twins.{IsRising}
use Rattle.hold_reach.specs.Reach.{IsViable, bound}

-- the first prefix comes before the second in path order: as lists are compared, where a list precedes its extensions
abbrev pub IsBefore : List ℕ → List ℕ → Type 0
IsBefore a b = slice_cmp nat_cmp a b ≡ Less

-- no cut is a beginning of the prefix
abbrev pub IsUncut : List (List ℕ) → List ℕ → Type 0
IsUncut cuts prefix = All (λ cut. Extends cut prefix → ⊥) cuts

-- the prefix has a number for some containers, but not for all
abbrev pub IsIncomplete : Problem → List ℕ → Type 0
IsIncomplete t prefix = length prefix < length t.items

-- the later cut comes after the earlier one, and does not begin with it
pub record AreInOrder (earlier later : List ℕ) : Type 0 where
  pub before : IsBefore earlier later
  pub apart : Extends earlier later → ⊥

-- no path that begins with the prefix is better than the claimed one: the prefix's bound, with its numbers, is at least the key
-- of the claimed path; where nothing is claimed there is nothing to turn back for
abbrev pub HoldsNothingBetter : Problem → Option (List ℕ) → List ℕ → Type 0
HoldsNothingBetter t None prefix = ⊥
HoldsNothingBetter t (Some path) prefix = IsSomeAnd (bound t prefix) (λ b. IsAtMost (key t path) (b, prefix))

-- the path is no better than the claimed one; where none is claimed, every path is
abbrev pub IsNoBetter : Problem → Option (List ℕ) → List ℕ → Type 0
IsNoBetter t None path = ⊥
IsNoBetter t (Some claim) path = IsAtMost (key t claim) (key t path)

-- a prefix at which a search looks: viable, incomplete, and not cut
pub record IsExpanded (t : Problem) (cuts : List (List ℕ)) (prefix : List ℕ) : Type 0 where
  pub viable : IsViable t prefix
  pub incomplete : IsIncomplete t prefix
  pub uncut : IsUncut cuts prefix

-- there are at most n different lists of the kind
abbrev pub AreAtMost : (List ℕ → Type 0) → ℕ → Type 0
AreAtMost Kind n = (lists : List (List ℕ)) → AllPairs (λ p q. p ≢ q) lists → All Kind lists → length lists ≤ n

-- the claimed path is admissible, the cuts are prefixes at which a search can turn back, and what they leave is no better than the
-- claimed path, and little
pub record Covers (t : Problem) (claim : Option (List ℕ)) (cuts : List (List ℕ)) (expanded : ℕ) : Type 0 where
  -- the claimed path is admissible
  pub admissible : IfSome claim (IsAdmissible t)
  -- the cuts rise, and none begins with another
  pub rising : AllPairs AreInOrder cuts
  -- each is viable and incomplete
  pub viable : All (IsViable t) cuts
  pub incomplete : All (IsIncomplete t) cuts
  -- no rising admissible path that begins with no cut is better than the claimed one
  pub covered : (path : List ℕ) → IsAdmissible t path → IsRising t path → IsUncut cuts path → IsNoBetter t claim path
  -- few viable prefixes are left to look at
  pub few : AreAtMost (IsExpanded t cuts) expanded

-- a certificate with this claim, these cuts and this number is good
pub record IsGood (t : Problem) (claim : Option (List ℕ)) (cuts : List (List ℕ)) (expanded : ℕ) : Type 0 where
  pub covers : Covers t claim cuts expanded
  -- nothing better than the claimed path begins with a cut
  pub idle : All (HoldsNothingBetter t claim) cuts
