-- the tests of the cuts, one cut more at a time
use Rattle.std.proofs.Common.{refl, ◌≡◌, ◌⊎◌, ⊎_elim, ◌↔◌, ℕ, ◌+◌, ◌-◌, ◌<◌, List, [], ◌∷◌, ◌++◌, length, get_or, take, Option, Some, sym, ap, ◌∙◌, subst, arith, length-take}
use Rattle.std.proofs.lemmas.List.{take_more, get_or-take, get_or-map, length-map}
use Rattle.std.proofs.lemmas.List.Elements.{All-push, All-nil}
use Rattle.std.proofs.lemmas.List.Quantifiers.{all_pairs_push}
use Rattle.std.proofs.lemmas.Option.{slice_get-get_or, get_or_from_slice_get}
use Rattle.std.specs.Prelude.{All, AllPairs, map, slice_get}
use Rattle.base_words.specs.Lists.{Extends}
use Rattle.hold_limits.specs.Problem.{Problem}
use Rattle.hold_limits.specs.Placement.{IsSound}
use Rattle.hold_limits.proofs.SoundLemmas.{IsSound-extends}
use Rattle.hold_reach.specs.Reach.{IsViable}
use Rattle.certificate.specs.Good.{AreInOrder, IsIncomplete, HoldsNothingBetter}
use Rattle.cert_checker.specs.FirstReason.{CutsHold, IsInOrder, CanBeCut, CutFails, AllPass}
use Rattle.cert_checker.specs.declared.reject.Reject.TheVariants.{CutNotViable}
use Rattle.cert_checker.proofs.PathOrder.{AreInOrder-trans}
use Rattle.cert_checker.proofs.CutOrder.{less_same_or_more}
use Rattle.cert_checker.proofs.WalkLemmas.{Pass-none}

-- the prefix of the cut at a place
pub prefix-at : {C : Type 0} (prefix_of : C → List ℕ) (cuts : List C) (i : ℕ) (cut : C) → i < length cuts → cut ≡ get_or cuts i cut → slice_get (map prefix_of cuts) i ≡ Some (prefix_of cut)
prefix-at prefix_of cuts i cut within is =
    slice_get-get_or (map prefix_of cuts) i (prefix_of cut) (omega (arith, within, length-map cuts prefix_of))
    ∙ ap (λ xs. Some xs) (get_or-map prefix_of cuts i cut (prefix_of cut) within ∙ ap prefix_of (sym is))

-- a cut comes after all cuts before it, which rise, exactly where it comes after the last of them
pub last-in_order : (cuts : List (List ℕ)) (at : ℕ) (earlier cut : List ℕ) → 0 < at → at < length cuts → AllPairs AreInOrder (take at cuts) → slice_get cuts (at - 1) ≡ Some earlier
    → AreInOrder earlier cut ↔ IsInOrder cuts at cut
last-in_order cuts at earlier cut some within rising before = (
  λ order k d less. by_place order k d (omega (arith, less, length-take at cuts)) (less_same_or_more k (at - 1)),
  λ all. subst (λ e. AreInOrder e cut) (last-is cut) (all (at - 1) cut (omega (arith, length-take at cuts))),
)
  where
    last-is : (d : List ℕ) → get_or (take at cuts) (at - 1) d ≡ earlier
    last-is d = get_or-take at cuts (at - 1) d (omega arith) ∙ get_or_from_slice_get cuts (at - 1) earlier d before

    by_place : AreInOrder earlier cut → (k : ℕ) (d : List ℕ) → k < at → (k < at - 1) ⊎ ((k ≡ at - 1) ⊎ (at - 1 < k)) → AreInOrder (get_or (take at cuts) k d) cut
    by_place order k d inside cases = ⊎_elim
        (λ less. AreInOrder-trans (get_or (take at cuts) k d) earlier cut
        (subst (AreInOrder (get_or (take at cuts) k d)) (last-is d) (rising k (at - 1) d less (omega (arith, length-take at cuts))))
        order)
        (λ rest. ⊎_elim
        (λ same. subst (λ n. AreInOrder (get_or (take at cuts) n d) cut) (sym same) (subst (λ e. AreInOrder e cut) (sym (last-is d)) order))
        (λ more. absurd (omega (arith, more, inside)))
        rest)
        cases

pub CutsHold-none : (t : Problem) (claim : Option (List ℕ)) → CutsHold t claim []
CutsHold-none t claim = record {
  rising = λ i j d before within. absurd (omega arith);
  viable = All-nil (IsViable t);
  incomplete = All-nil (IsIncomplete t);
  idle = All-nil (HoldsNothingBetter t claim);
}

-- One cut more ----------------------------------------------------------------------------------

longer : {X : Type 0} (cuts : List X) (at : ℕ) (cut : X) → at < length cuts → slice_get cuts at ≡ Some cut → take (at + 1) cuts ≡ take at cuts ++ cut ∷ []
longer cuts at cut within stands = take_more cuts at cut within ∙ ap (λ c. take at cuts ++ c ∷ []) (get_or_from_slice_get cuts at cut cut stands)

pub rising-next : (cuts : List (List ℕ)) (at : ℕ) (cut : List ℕ) → at < length cuts → slice_get cuts at ≡ Some cut
    → AllPairs AreInOrder (take at cuts) → IsInOrder cuts at cut → AllPairs AreInOrder (take (at + 1) cuts)
rising-next cuts at cut within stands rising order =
    subst (AllPairs AreInOrder) (sym (longer cuts at cut within stands)) (all_pairs_push AreInOrder (take at cuts) cut rising order)

-- of a kind
pub each-next : {X : Type 0} (P : X → Type 0) (cuts : List X) (at : ℕ) (cut : X) → at < length cuts → slice_get cuts at ≡ Some cut
    → All P (take at cuts) → P cut → All P (take (at + 1) cuts)
each-next P cuts at cut within stands all is = subst (All P) (sym (longer cuts at cut within stands)) (All-push P (take at cuts) cut all is)

pub CutsHold-next : (t : Problem) (claim : Option (List ℕ)) (cuts : List (List ℕ)) (at : ℕ) (cut : List ℕ) → at < length cuts → slice_get cuts at ≡ Some cut
    → CutsHold t claim (take at cuts) → IsInOrder cuts at cut → CanBeCut t cut → HoldsNothingBetter t claim cut → CutsHold t claim (take (at + 1) cuts)
CutsHold-next t claim cuts at cut within stands hold order can idle = record {
  rising = rising-next cuts at cut within stands hold.rising order;
  viable = each-next (IsViable t) cuts at cut within stands hold.viable can.0;
  incomplete = each-next (IsIncomplete t) cuts at cut within stands hold.incomplete can.1;
  idle = each-next (HoldsNothingBetter t claim) cuts at cut within stands hold.idle idle;
}

-- Where no prefix is sound ----------------------------------------------------------------------

-- none is left to look at
pub unsound-passes : (t : Problem) (claim : Option (List ℕ)) (cuts : List (List ℕ)) (allowed : ℕ) → (IsSound t [] → ⊥) → AllPass t claim cuts allowed
unsound-passes t claim cuts allowed unsound =
    (0, omega arith, Pass-none t claim cuts (Extends []) (λ p viable uncut extends. unsound (IsSound-extends t [] p extends viable.sound)))

-- none can be a cut
pub unsound-no_cut : (t : Problem) (cut : List ℕ) → (IsSound t [] → ⊥) → CanBeCut t cut → ⊥
unsound-no_cut t cut unsound can = unsound (IsSound-extends t [] cut (cut, refl) can.0.sound)

pub unsound-holds : (t : Problem) (claim : Option (List ℕ)) (cuts : List (List ℕ)) (allowed : ℕ) → (IsSound t [] → ⊥) → length cuts ≡ 0 → CutsHold t claim cuts × AllPass t claim cuts allowed
unsound-holds t claim [] allowed unsound none = (
  CutsHold-none t claim,
  unsound-passes t claim [] allowed unsound,
)
unsound-holds t claim (cut ∷ cuts) allowed unsound none = absurd (omega (arith, none))

-- there the first cut is not viable
pub unsound-fails : (t : Problem) (claim : Option (List ℕ)) (cuts : List (List ℕ)) → (IsSound t [] → ⊥) → 0 < length cuts → CutFails t claim cuts (CutNotViable 0)
unsound-fails t claim [] unsound some = absurd (omega (arith, some))
unsound-fails t claim (cut ∷ cuts) unsound some = (
  cut,
  record { stands = refl; before = CutsHold-none t claim },
  λ k d less. absurd (omega (arith, less)),
  unsound-no_cut t cut unsound,
)
