-- the first reason for which a certificate is not good
--
-- The claim is tested first. Then come the cuts in their order: each is to come after those before it, to be viable and
-- incomplete, and to hold nothing better than the claimed path. Then come, in path order, the viable prefixes that begin with
-- no cut: an incomplete one counts against the number of the certificate, and a complete one is to be no better than the
-- claimed path. The first that fails is the reason.
--
-- What is said of the claim, and of the viable prefixes that begin with no cut, is the same of cuts of any kind.
use Rattle.std.specs.Prelude.{◌≡◌, ◌≢◌, ℕ, ◌≤◌, ◌⊎◌, List, [], length, take, slice_get, All, AllPairs, Option, Some, IfSome, IsSome, IsNone}
use Rattle.std.specs.List.{Contains}
use Rattle.base_words.specs.Lists.{Extends}
use Rattle.hold_limits.specs.Problem.{Problem}
use Rattle.hold_limits.specs.Placement.{IsAdmissible}
use Rattle.hold_reach.specs.Reach.{IsViable}
use Rattle.certificate.specs.declared.parts.Certificate.{Certificate}
use Rattle.certificate.specs.Evidence.{claimed}
use Rattle.certificate.specs.Good.{IsBefore, IsUncut, IsIncomplete, AreInOrder, HoldsNothingBetter, IsNoBetter, IsExpanded}
use Rattle.cert_checker.specs.declared.reject.Reject.{Reject}
use Rattle.cert_checker.specs.declared.reject.Reject.TheVariants.{NotAPlacement, CutOrder, CutNotViable, CutWeak, Nearer, Exists, MoreExpanded}

-- The claim -------------------------------------------------------------------------------------

-- the claimed path is admissible, if one is claimed
abbrev pub ClaimHolds : Problem → Option (List ℕ) → Type 0
ClaimHolds t claim = IfSome claim (IsAdmissible t)

-- The cuts --------------------------------------------------------------------------------------

-- the cuts rise and none begins with another; each is viable and incomplete, and nothing better begins with it
pub record CutsHold (t : Problem) (claim : Option (List ℕ)) (cuts : List (List ℕ)) : Type 0 where
  pub rising : AllPairs AreInOrder cuts
  pub viable : All (IsViable t) cuts
  pub incomplete : All (IsIncomplete t) cuts
  pub idle : All (HoldsNothingBetter t claim) cuts

-- the test comes to the cut at the place: it stands there, and those before it hold
pub record IsTested (t : Problem) (claim : Option (List ℕ)) (cuts : List (List ℕ)) (at : ℕ) (cut : List ℕ) : Type 0 where
  pub stands : slice_get cuts at ≡ Some cut
  pub before : CutsHold t claim (take at cuts)

-- the cut comes after those before its place, and begins with none of them
abbrev pub IsInOrder : List (List ℕ) → ℕ → List ℕ → Type 0
IsInOrder cuts at cut = All (λ earlier. AreInOrder earlier cut) (take at cuts)

-- a cut can be viable and incomplete
abbrev pub CanBeCut : Problem → List ℕ → Type 0
CanBeCut t prefix = IsViable t prefix × IsIncomplete t prefix

-- the cut at the place is the first that fails, and this is its first fault
abbrev pub CutFails : Problem → Option (List ℕ) → List (List ℕ) → Reject → Type 0
CutFails t claim cuts (CutOrder at) = (cut : List ℕ) × IsTested t claim cuts at cut × (IsInOrder cuts at cut → ⊥)
CutFails t claim cuts (CutNotViable at) =
    (cut : List ℕ) × IsTested t claim cuts at cut × IsInOrder cuts at cut × (CanBeCut t cut → ⊥)
CutFails t claim cuts (CutWeak at) =
    (cut : List ℕ) × IsTested t claim cuts at cut × IsInOrder cuts at cut × CanBeCut t cut × (HoldsNothingBetter t claim cut → ⊥)
CutFails t claim cuts other = ⊥

-- The viable prefixes that begin with no cut ----------------------------------------------------

-- the prefix has a number for every container
abbrev pub IsComplete : Problem → List ℕ → Type 0
IsComplete t prefix = length prefix ≡ length t.items

-- there are exactly n different lists of the kind
pub record AreExactly (Kind : List ℕ → Type 0) (n : ℕ) : Type 0 where
  pub lists : List (List ℕ)
  pub different : AllPairs (λ p q. p ≢ q) lists
  pub of_kind : All Kind lists
  pub every : (p : List ℕ) → Kind p → Contains lists p
  pub number : length lists ≡ n

-- among the viable prefixes of the kind that begin with no cut exactly n are incomplete, and no complete one is better than the
-- claimed path
pub record Pass (t : Problem) (claim : Option (List ℕ)) (cuts : List (List ℕ)) (Kind : List ℕ → Type 0) (n : ℕ) : Type 0 where
  pub expanded : AreExactly (λ p. IsExpanded t cuts p × Kind p) n
  pub no_better : (path : List ℕ) → IsViable t path → IsUncut cuts path → IsComplete t path → Kind path → IsNoBetter t claim path

-- the viable prefixes that begin with no cut pass, and no more than allowed are incomplete
abbrev pub AllPass : Problem → Option (List ℕ) → List (List ℕ) → ℕ → Type 0
AllPass t claim cuts allowed = (n : ℕ) × (n ≤ allowed) × Pass t claim cuts (Extends []) n

-- the test comes to the prefix: it is viable and begins with no cut, those before it in path order pass, and n of them, which are
-- no more than allowed, are incomplete
pub record IsReached (t : Problem) (claim : Option (List ℕ)) (cuts : List (List ℕ)) (allowed : ℕ) (prefix : List ℕ) (n : ℕ) : Type 0 where
  pub viable : IsViable t prefix
  pub uncut : IsUncut cuts prefix
  pub before : Pass t claim cuts (λ p. IsBefore p prefix) n
  pub few : n ≤ allowed

-- the path is the first prefix that fails: it is complete, and better than the claimed one
abbrev pub PathFails : Problem → Option (List ℕ) → List (List ℕ) → ℕ → List ℕ → Type 0
PathFails t claim cuts allowed path =
    (n : ℕ) × IsReached t claim cuts allowed path n × IsComplete t path × (IsNoBetter t claim path → ⊥)

-- an incomplete prefix is the first that fails: as many as allowed come before it
abbrev pub OneTooMany : Problem → Option (List ℕ) → List (List ℕ) → ℕ → Type 0
OneTooMany t claim cuts allowed =
    (prefix : List ℕ) × IsReached t claim cuts allowed prefix allowed × IsIncomplete t prefix

-- the first of these prefixes that fails, and how
abbrev pub PrefixFails : Problem → Option (List ℕ) → List (List ℕ) → ℕ → Reject → Type 0
PrefixFails t claim cuts allowed (Nearer path) = IsSome claim × PathFails t claim cuts allowed path.items
PrefixFails t claim cuts allowed (Exists path) = IsNone claim × PathFails t claim cuts allowed path.items
PrefixFails t claim cuts allowed MoreExpanded = OneTooMany t claim cuts allowed
PrefixFails t claim cuts allowed other = ⊥

-- All together ----------------------------------------------------------------------------------

-- the reason is the first for which a certificate with this claim, these cuts and this number is not good: the claim fails; or it
-- holds and a cut fails; or the cuts hold too, and a viable prefix that begins with none of them fails
abbrev pub IsFirstReason : Problem → Option (List ℕ) → List (List ℕ) → ℕ → Reject → Type 0
IsFirstReason t claim cuts expanded reason =
    ((ClaimHolds t claim → ⊥) × (reason ≡ NotAPlacement))
    ⊎ (ClaimHolds t claim
    × (CutFails t claim cuts reason ⊎ (CutsHold t claim cuts × PrefixFails t claim cuts expanded reason)))

-- the same of a certificate
abbrev pub IsFirstReasonFor : Problem → Certificate → Reject → Type 0
IsFirstReasonFor t c = IsFirstReason t (claimed c.claim) c.cuts c.expanded
