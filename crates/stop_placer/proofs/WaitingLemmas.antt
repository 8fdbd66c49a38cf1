-- a lawful load can be searched, and prefixes that are longer by a fitting number may wait
use Rattle.std.proofs.Common.{◌≡◌, ℕ, ◌≤◌, max, List, [], ◌∷◌, ◌++◌, Option, Some, subst, arith}
use Rattle.std.specs.Prelude.{◌≤ℤ◌, IfSome}
use Rattle.hold_limits.specs.Faults.{IsLawful}
use Rattle.hold_limits.specs.Placement.{IsSound}
use Rattle.hold_limits.specs.Problem.{Problem}
use Rattle.hold_reach.specs.Reach.{wide_bound}
use Rattle.hold_reach.proofs.ViableLemmas.{band-in_order}
use Rattle.path_search.specs.Worlds.{IsSearchable}
use Rattle.stop_tasks.specs.Stops.{Stops}
use Rattle.stop_tasks.specs.StopPaths.{IsFirstSector, IsStopViable}
use Rattle.stop_tasks.proofs.AdmissibleLemmas.{one-first}
use Rattle.stop_world.specs.StopWorlds.{HasFirstBand, HasStopBound, IsSoundAtStart, MayWaitAtStops, stop_world}

-- a lawful first sector has its ideal band in order
pub first-band : (t : Stops) (first : Problem) → IsFirstSector t first → IsLawful first → HasFirstBand t
first-band t first is_first lawful other is_other =
    subst (λ (p : Problem). p.ideal_low ≤ℤ p.ideal_high) (one-first t first other is_first is_other) (band-in_order first lawful)

-- a longer prefix that is sound at the start may wait with the ticks of the shorter one, or with its own least ticks
pub longer-waits : (t : Stops) (first : Problem) (prefix : List ℕ) (q bound least waited : ℕ) → IsSearchable (stop_world t) (MayWaitAtStops t) → HasStopBound t prefix bound
    → IsFirstSector t first → IfSome (wide_bound first (prefix ++ q ∷ [])) (λ b. least ≤ b) → waited ≡ max bound least → IsSoundAtStart t (prefix ++ q ∷ []) → MayWaitAtStops t (prefix ++ q ∷ []) waited
longer-waits t first prefix q bound least waited laws is is_first told both sound = record {
  sound = sound;
  below = λ ticks longer.
      let shorter = laws.narrows prefix q ticks longer in
      let own : least ≤ ticks = rw (longer.bound first is_first) at told in
      omega (arith, laws.one prefix bound shorter.0 is shorter.1, shorter.2, own, both);
}

-- what is sound on the first sector is sound at the start
pub sound-at_start : (t : Stops) (first : Problem) (prefix : List ℕ) → IsFirstSector t first → IsSound first prefix → IsSoundAtStart t prefix
sound-at_start t first prefix is_first sound other is_other = subst (λ (p : Problem). IsSound p prefix) (one-first t first other is_first is_other) sound

-- a prefix that waited with no less than its bound waited with its bound
pub settled-bound : (t : Stops) (prefix : List ℕ) (waited bound : ℕ) → MayWaitAtStops t prefix waited → HasStopBound t prefix bound → bound ≤ waited → HasStopBound t prefix waited
settled-bound t prefix waited bound may is within = subst (HasStopBound t prefix) (omega (arith, may.below bound is, within)) is

-- what is told of a bound, where there is one
pub told-bound : (t : Stops) (prefix : List ℕ) (answer : Option ℕ) (bound : ℕ) → answer ≡ Some bound
    → IfSome answer (λ b. IsStopViable t prefix × ((first : Problem) → IsFirstSector t first → wide_bound first prefix ≡ Some b)) → HasStopBound t prefix bound
told-bound t prefix answer bound is told =
    let both : IsStopViable t prefix × ((first : Problem) → IsFirstSector t first → wide_bound first prefix ≡ Some bound) = rw is at told in
    record { viable = both.0; bound = both.1 }
