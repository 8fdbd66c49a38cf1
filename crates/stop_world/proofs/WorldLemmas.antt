-- a best-first search can go through the prefixes of a load over several sectors
use Rattle.std.proofs.Common.{◌≡◌, ◌↔◌, ⊎_elim, ℕ, zero, ◌<◌, ◌≤◌, List, [], ◌∷◌, ◌++◌, length, Option, Some, refl, sym, ◌∙◌, subst, arith}
use Rattle.std.proofs.lemmas.List.Elements.{All-contains, Contains-push, recursion_from_All}
use Rattle.std.specs.List.{AllByRecursion}
use Rattle.std.specs.Prelude.{IsSomeAnd, slice_get}
use Rattle.hold_limits.specs.Problem.{Problem}
use Rattle.hold_limits.specs.Placement.{IsAdmissible, IsAtMost, IsSound, distance, key}
use Rattle.hold_limits.proofs.SoundLemmas.{IsSound-within}
use Rattle.hold_reach.specs.Reach.{wide_bound}
use Rattle.path_search.specs.Promising.{IsPromising}
use Rattle.path_search.specs.Worlds.{IsBestIn, IsSearchable}
use Rattle.stop_tasks.specs.Stops.{Stops}
use Rattle.stop_tasks.specs.StopFaults.{AreLawfulStops, HasSectors}
use Rattle.stop_tasks.specs.StopPaths.{IsFirstSector, IsStopAdmissible, IsStopBest, IsStopNear, IsStopViable, IsWidelyViable}
use Rattle.stop_tasks.proofs.AdmissibleLemmas.{one-first, stop-admissible-parts}
use Rattle.stop_world.specs.StopWorlds.{HasFirstBand, HasStopBound, IsSoundAtStart, MayWaitAtStops, of_first, stop_world}
use Rattle.stop_world.proofs.LeastLemmas.{IsLeast, least-exists, told-admissible}
use Rattle.stop_world.proofs.SectorLemmas.{admissible-viable, on-first, viable-admissible, viable-shorter}
use Rattle.stop_world.proofs.WideLemmas.{wide_bound-complete, wide_bound-exists, wide_bound-shorter}

-- The first sector ------------------------------------------------------------------------------

of_first-is : (t : Stops) (first : Problem) (said : Problem → ℕ) → IsFirstSector t first → of_first t said ≡ said first
of_first-is t first said is_first = rw is_first refl

-- what has a bound on the first sector has it whatever that is called
bound-from : (t : Stops) (first : Problem) (prefix : List ℕ) (b : ℕ) → IsFirstSector t first → IsStopViable t prefix → wide_bound first prefix ≡ Some b → HasStopBound t prefix b
bound-from t first prefix b is_first viable is =
    record { viable = viable; bound = λ other is_other. subst (λ (p : Problem). wide_bound p prefix ≡ Some b) (one-first t first other is_first is_other) is }

-- two or three sectors have a first one
at-start : (sectors : List Problem) → HasSectors sectors → (first : Problem) × (slice_get sectors 0 ≡ Some first)
at-start [] several = absurd (⊎_elim (λ (two : zero ≡ 2). omega (arith, two)) (λ (three : zero ≡ 3). omega (arith, three)) several)
at-start (first ∷ sectors) several = (first, refl)

one-value : (o : Option ℕ) (a b : ℕ) → o ≡ Some a → o ≡ Some b → a ≡ b
one-value o a b first second = cc

module _ (t : Stops) (lawful : AreLawfulStops t) where
  -- a prefix that is viable at every stop is widely viable on the first sector
  viable-first : (prefix : List ℕ) (viable : IsStopViable t prefix) → IsWidelyViable viable.first prefix
  viable-first prefix viable = on-first IsWidelyViable t viable.first prefix lawful viable.is_first viable.short viable.sectors

  count-is : (first : Problem) (path : List ℕ) → IsFirstSector t first → length path ≡ (stop_world t).count → length path ≡ length first.items
  count-is first path is_first whole = whole ∙ of_first-is t first (λ first. length first.items) is_first

  -- The best path -------------------------------------------------------------------------------

  best-in : (path : List ℕ) → IsStopBest t path ↔ IsBestIn (stop_world t) path
  best-in path = (
    λ is. record {
      admissible = is.admissible;
      least = λ other of_other.
          let first = is.admissible.first in
          let is_first : IsFirstSector t first = is.admissible.is_first in
          rw is_first (is.least first other is_first of_other);
    },
    λ is. record {
      admissible = is.admissible;
      least = λ first other is_first of_other. rw is_first at (is.least other of_other);
    },
  )

  best-exists : (path : List ℕ) → IsStopAdmissible t path → (best : List ℕ) × IsStopBest t best
  best-exists path admissible = ⊎_elim
      (λ (none : (path : List ℕ) → IsStopAdmissible t path → ⊥). absurd (none path admissible))
      (λ (best : (best : List ℕ) × IsLeast (IsStopAdmissible t) (key first) best). (
        best.0,
        record {
          admissible = best.1.of_kind;
          least = λ other path is_other of_path. subst (λ (p : Problem). IsAtMost (key p best.0) (key p path)) (one-first t first other is_first is_other) (best.1.least path of_path);
        },
      ))
      (least-exists (length first.items) (length first.hold.positions) (IsStopAdmissible t) (key first) (λ path. told-admissible t first path is_first) within)
    where
      first : Problem
      first = admissible.first

      is_first : IsFirstSector t first
      is_first = admissible.is_first

      within : (path : List ℕ) → IsStopAdmissible t path → (length path ≡ length first.items) × AllByRecursion (λ q. q < length first.hold.positions) path
      within path is =
          let parts = stop-admissible-parts t first path is_first is in
          let here : IsAdmissible first path = on-first IsAdmissible t first path lawful is_first (omega (arith, parts.0)) parts.2 in
          (parts.0, recursion_from_All (λ q. q < length first.hold.positions) path (IsSound-within first path here.sound))

  -- What is asked of a world --------------------------------------------------------------------

  -- there is a first sector
  start : (first : Problem) × IsFirstSector t first
  start = at-start t.sectors lawful.sectors

  short : (prefix : List ℕ) → IsSoundAtStart t prefix → length prefix ≤ (stop_world t).count
  short prefix sound = omega (arith, (sound start.0 start.1).short, of_first-is t start.0 (λ first. length first.items) start.1)

  within-positions : (prefix : List ℕ) (q : ℕ) → IsSoundAtStart t (prefix ++ q ∷ []) → q < (stop_world t).positions
  within-positions prefix q sound =
      let first = start.0 in
      let inside : q < length first.hold.positions =
      All-contains (λ n. n < length first.hold.positions) (prefix ++ q ∷ []) q (IsSound-within first (prefix ++ q ∷ []) (sound first start.1)) (Contains-push prefix q) in
      omega (arith, inside, of_first-is t first (λ first. length first.hold.positions) start.1)

  -- what has a bound is sound at the start
  bound-sound : (prefix : List ℕ) (b : ℕ) → HasStopBound t prefix b → IsSoundAtStart t prefix
  bound-sound prefix b is first is_first =
      subst (λ (p : Problem). IsSound p prefix) (one-first t is.viable.first first is.viable.is_first is_first) (viable-first prefix is.viable).sound

  narrows : HasFirstBand t → (prefix : List ℕ) (q b : ℕ) → HasStopBound t (prefix ++ q ∷ []) b → (a : ℕ) × HasStopBound t prefix a × (a ≤ b)
  narrows band prefix q b is =
      let first = is.viable.first in
      let is_first = is.viable.is_first in
      let outer = wide_bound-shorter first prefix q b (band first is_first) (viable-first (prefix ++ q ∷ []) is.viable) (is.bound first is_first) in
      (outer.0, bound-from t first prefix outer.0 is_first (viable-shorter t prefix q is.viable) outer.1, outer.2)

  -- a path has its distance as its bound, where it is viable at every stop
  distance-bound : (path : List ℕ) → IsStopViable t path → length path ≡ (stop_world t).count → HasStopBound t path ((stop_world t).distance path)
  distance-bound path viable whole =
      let first = viable.first in
      let is_first = viable.is_first in
      bound-from t first path ((stop_world t).distance path) is_first viable
      (subst (λ d. wide_bound first path ≡ Some d) (sym (of_first-is t first (λ first. distance first path) is_first))
      (wide_bound-complete first path (count-is first path is_first whole)))

  best-whole : (path : List ℕ) → IsStopBest t path → length path ≡ (stop_world t).count
  best-whole path is = is.admissible.complete ∙ sym (of_first-is t is.admissible.first (λ first. length first.items) is.admissible.is_first)

  one : (prefix : List ℕ) (a b : ℕ) → HasStopBound t prefix a → HasStopBound t prefix b → a ≡ b
  one prefix a b is also =
      one-value (wide_bound is.viable.first prefix) a b (is.bound is.viable.first is.viable.is_first) (also.bound is.viable.first is.viable.is_first)

  -- a near prefix is a promising one
  near-is_promising : (prefix : List ℕ) → IsStopNear t prefix → IsPromising (stop_world t) prefix
  near-is_promising prefix near =
      let first = near.viable.first in
      let is_first : IsFirstSector t first = near.viable.is_first in
      let here = wide_bound-exists first prefix (viable-first prefix near.viable) in
      record {
        bound = here.0;
        is = bound-from t first prefix here.0 is_first near.viable here.1;
        below = λ best is.
            let above : IsAtMost (here.0, prefix) (key first best) = subst (λ o. IsSomeAnd o (λ b. IsAtMost (b, prefix) (key first best))) here.1 (near.promising first best is_first is) in
            rw is_first above;
      }

  promising-is_near : (prefix : List ℕ) → IsPromising (stop_world t) prefix → IsStopNear t prefix
  promising-is_near prefix promising = record {
    viable = promising.is.viable;
    promising = λ first best is_first is.
        let above : IsAtMost (promising.bound, prefix) (key first best) = rw is_first at (promising.below best is) in
        subst (λ o. IsSomeAnd o (λ b. IsAtMost (b, prefix) (key first best))) (sym (promising.is.bound first is_first)) above;
  }

pub searchable : (t : Stops) → AreLawfulStops t → HasFirstBand t → IsSearchable (stop_world t) (MayWaitAtStops t)
searchable t lawful band = record {
  short = short t lawful;
  within = within-positions t lawful;
  admissible = λ path b is whole. viable-admissible t path is.viable.first lawful is.viable.is_first (count-is t lawful is.viable.first path is.viable.is_first whole) is.viable;
  best = best-in t lawful;
  best_bound = λ path is. distance-bound t lawful path (admissible-viable t path is.admissible) (best-whole t lawful path is);
  best_whole = best-whole t lawful;
  best_exists = best-exists t lawful;
  one = one t lawful;
  viable = bound-sound t lawful;
  narrows = narrows t lawful band;
  complete = λ path b is whole. one t lawful path b ((stop_world t).distance path) is (distance-bound t lawful path is.viable whole);
  waiting = λ prefix waited may. may.sound;
  below = λ prefix waited b may is. may.below b is;
}

pub near-promising : (t : Stops) (prefix : List ℕ) → AreLawfulStops t → IsStopNear t prefix ↔ IsPromising (stop_world t) prefix
near-promising t prefix lawful = (near-is_promising t lawful prefix, promising-is_near t lawful prefix)
