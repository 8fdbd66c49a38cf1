-- the prefixes of a task can be searched by bounds of any kind
use Rattle.std.proofs.Common.{ℕ, List, [], ◌∷◌, ◌++◌, sym, subst, append-nil}
use Rattle.std.proofs.lemmas.List.Elements.{All-contains, Contains-push}
use Rattle.std.specs.Prelude.{◌<◌, length}
use Rattle.hold_limits.specs.Problem.{Problem}
use Rattle.hold_limits.specs.Placement.{IsAdmissible, IsBest, distance}
use Rattle.hold_limits.specs.Twins.{IsRising}
use Rattle.hold_limits.proofs.EnumerationLemmas.{best_exists}
use Rattle.hold_limits.proofs.ExchangeLemmas.{best-rises}
use Rattle.hold_limits.proofs.SoundLemmas.{IsSound-within}
use Rattle.hold_reach.specs.Reach.{IsViable}
use Rattle.hold_reach.proofs.ViableLemmas.{IsAdmissible-from_viable, IsViable-front}
use Rattle.path_search.specs.Worlds.{IsSearchable}
use Rattle.path_search.proofs.BoundLemmas as any
use Rattle.best_first.specs.Bounds.{AreBounds, world_of}
use Rattle.best_first.specs.Promising.{IsPromising}

best-viable : (t : Problem) (best : List ℕ) → IsBest t best → IsViable t best
best-viable t best is = IsViable-front t best [] (subst (IsAdmissible t) (sym (append-nil best)) is.admissible) (subst (IsRising t) (sym (append-nil best)) (best-rises t best is))

module _ (t : Problem) (HasBound MayWait : List ℕ → ℕ → Type 0) (laws : AreBounds t HasBound MayWait) where
  pub searchable : IsSearchable (world_of t HasBound) MayWait
  searchable = record {
    short = λ prefix viable. viable.sound.short;
    within = λ prefix q viable. All-contains (λ n. n < length t.hold.positions) (prefix ++ q ∷ []) q (IsSound-within t (prefix ++ q ∷ []) viable.sound) (Contains-push prefix q);
    admissible = λ path b is whole. IsAdmissible-from_viable t path whole (laws.viable path b is);
    best = λ path. (
      λ is. record { admissible = is.admissible; least = is.least },
      λ is. record { admissible = is.admissible; least = is.least },
    );
    best_bound = λ path is. laws.complete path (best-viable t path is) is.admissible.complete;
    best_whole = λ path is. is.admissible.complete;
    best_exists = best_exists t;
    one = laws.one;
    viable = laws.viable;
    narrows = laws.narrows;
    complete = λ path b is whole. laws.one path b (distance t path) is (laws.complete path (laws.viable path b is) whole);
    waiting = laws.waiting;
    below = laws.below;
  }

  -- the empty prefix is promising where it has a bound
  pub empty-promising : (b : ℕ) → HasBound [] b → IsPromising t HasBound []
  empty-promising = any.empty-promising (world_of t HasBound) MayWait searchable
