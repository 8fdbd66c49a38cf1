-- the tests of the cuts, one cut more at a time
use Rattle.std.proofs.Common.{refl, ◌≡◌, ℕ, zero, suc, ◌+◌, ◌<◌, List, [], ◌∷◌, length, map, take, Option, Some, option_map, sym, ap, subst, arith}
use Rattle.std.proofs.lemmas.List.{take-map, length-map}
use Rattle.std.proofs.lemmas.List.Elements.{All-nil}
use Rattle.std.specs.Prelude.{All, AllPairs, slice_get}
use Rattle.hold_limits.specs.Problem.{Problem}
use Rattle.hold_limits.specs.Placement.{IsSound}
use Rattle.hold_reach.specs.Reach.{IsViable}
use Rattle.certificate.specs.Good.{AreInOrder, IsIncomplete}
use Rattle.cert_checker.specs.FirstReason.{IsInOrder, CanBeCut, AllPass}
use Rattle.cert_checker.proofs.CutLemmas.{rising-next, each-next, unsound-passes, unsound-no_cut}
use Rattle.priced_certificate.specs.declared.parts.PricedCut.{PricedCut}
use Rattle.priced_checker.specs.Good.{prefix_of, prefixes_of, IsPriced, IsIdle}
use Rattle.priced_checker.specs.FirstReason.{PricedCutsHold, PricedCutFails}
use Rattle.priced_checker.specs.declared.reject.PricedReject.TheVariants.{CutNotViable}

-- the prefixes of the first cuts are the first prefixes
pub prefixes-take : (n : ℕ) (cuts : List PricedCut) → take n (prefixes_of cuts) ≡ prefixes_of (take n cuts)
prefixes-take n cuts = take-map prefix_of n cuts

pub prefix-stands : (cuts : List PricedCut) (at : ℕ) (cut : PricedCut) → slice_get cuts at ≡ Some cut → slice_get (prefixes_of cuts) at ≡ Some (prefix_of cut)
prefix-stands cuts at cut stands = slice_get-map prefix_of cuts at cut stands
  where
    slice_get-map : {X Y : Type 0} (f : X → Y) (xs : List X) (at : ℕ) (x : X) → slice_get xs at ≡ Some x → slice_get (map f xs) at ≡ Some (f x)
    slice_get-map f [] at x is = absurd (cc)
    slice_get-map f (y ∷ xs) zero x is = ap (λ o. option_map f o) is
    slice_get-map f (y ∷ xs) (suc at) x is = slice_get-map f xs at x is

pub holds-none : (t : Problem) (claim : Option (List ℕ)) → PricedCutsHold t claim []
holds-none t claim = record {
  rising = λ i j d before within. absurd (omega arith);
  viable = All-nil (IsViable t);
  incomplete = All-nil (IsIncomplete t);
  priced = All-nil (IsPriced t);
  idle = All-nil (IsIdle t claim);
}

pub holds-next : (t : Problem) (claim : Option (List ℕ)) (cuts : List PricedCut) (at : ℕ) (cut : PricedCut) → at < length cuts → slice_get cuts at ≡ Some cut
    → PricedCutsHold t claim (take at cuts) → IsInOrder (prefixes_of cuts) at (prefix_of cut) → CanBeCut t (prefix_of cut) → IsPriced t cut → IsIdle t claim cut
    → PricedCutsHold t claim (take (at + 1) cuts)
holds-next t claim cuts at cut within stands hold order can priced idle = record {
  rising = subst (AllPairs AreInOrder) (prefixes-take (at + 1) cuts) (rising-next prefixes at (prefix_of cut) inside there (subst (AllPairs AreInOrder) (sym (prefixes-take at cuts)) hold.rising) order);
  viable = subst (All (IsViable t)) (prefixes-take (at + 1) cuts) (each-next (IsViable t) prefixes at (prefix_of cut) inside there (subst (All (IsViable t)) (sym (prefixes-take at cuts)) hold.viable) can.0);
  incomplete = subst (All (IsIncomplete t)) (prefixes-take (at + 1) cuts) (each-next (IsIncomplete t) prefixes at (prefix_of cut) inside there (subst (All (IsIncomplete t)) (sym (prefixes-take at cuts)) hold.incomplete) can.1);
  priced = each-next (IsPriced t) cuts at cut within stands hold.priced priced;
  idle = each-next (IsIdle t claim) cuts at cut within stands hold.idle idle;
}
  where
    prefixes : List (List ℕ)
    prefixes = prefixes_of cuts

    inside : at < length prefixes
    inside = omega (arith, within, length-map cuts prefix_of)

    there : slice_get prefixes at ≡ Some (prefix_of cut)
    there = prefix-stands cuts at cut stands

-- Where no prefix is sound ----------------------------------------------------------------------

pub unsound-holds : (t : Problem) (claim : Option (List ℕ)) (cuts : List PricedCut) (allowed : ℕ) → (IsSound t [] → ⊥) → length cuts ≡ 0 → PricedCutsHold t claim cuts × AllPass t claim (prefixes_of cuts) allowed
unsound-holds t claim [] allowed unsound none = (holds-none t claim, unsound-passes t claim [] allowed unsound)
unsound-holds t claim (cut ∷ cuts) allowed unsound none = absurd (omega (arith, none))

-- there the first cut is not viable
pub unsound-fails : (t : Problem) (claim : Option (List ℕ)) (cuts : List PricedCut) → (IsSound t [] → ⊥) → 0 < length cuts → PricedCutFails t claim cuts (CutNotViable 0)
unsound-fails t claim [] unsound some = absurd (omega (arith, some))
unsound-fails t claim (cut ∷ cuts) unsound some = (
  cut,
  record { stands = refl; before = holds-none t claim },
  λ k d less. absurd (omega (arith, less)),
  unsound-no_cut t (prefix_of cut) unsound,
)
