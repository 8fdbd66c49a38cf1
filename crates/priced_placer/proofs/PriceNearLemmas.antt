-- price-near prefixes are those that are promising by the tight bounds, and price cuts those that such a search leaves
use Rattle.std.proofs.Common.{◌≡◌, ⊎_elim, inl, inr, ℕ, List, []}
use Rattle.std.proofs.lemmas.List.Elements.{All-weaker}
use Rattle.hold_limits.specs.Problem.{Problem}
use Rattle.cert_checker.specs.FirstReason.{AreExactly}
use Rattle.best_first.specs.Promising.{IsPromising, IsPromisingAndIncomplete, HasPromisingParent, IsLeft}
use Rattle.priced_placer.specs.PriceNear.{HasTightBound, IsPriceNear, IsPriceNearAndIncomplete, HasPriceNearParent, IsPriceCut}

module _ (t : Problem) where
  pub near-promising : (prefix : List ℕ) → IsPriceNear t prefix → IsPromising t (HasTightBound t) prefix
  near-promising prefix near = record { bound = near.bound; is = near.has; below = near.promising }

  pub promising-near : (prefix : List ℕ) → IsPromising t (HasTightBound t) prefix → IsPriceNear t prefix
  promising-near prefix promising = record { bound = promising.bound; has = promising.is; promising = promising.below }

  pub left-cut : (prefix : List ℕ) → IsLeft t (HasTightBound t) prefix → IsPriceCut t prefix
  left-cut prefix left = record {
    viable = left.viable;
    incomplete = left.incomplete;
    far = λ near. left.unpromising (near-promising prefix near);
    parent = ⊎_elim
        (λ (none : prefix ≡ []). inl none)
        (λ (parent : HasPromisingParent t (HasTightBound t) prefix). inr (parent.0, parent.1, parent.2, promising-near parent.0 parent.3))
        left.reached;
  }

  pub cut-left : (prefix : List ℕ) → IsPriceCut t prefix → IsLeft t (HasTightBound t) prefix
  cut-left prefix cut = record {
    viable = cut.viable;
    incomplete = cut.incomplete;
    unpromising = λ promising. cut.far (promising-near prefix promising);
    reached = ⊎_elim
        (λ (none : prefix ≡ []). inl none)
        (λ (parent : HasPriceNearParent t prefix). inr (parent.0, parent.1, parent.2, near-promising parent.0 parent.3))
        cut.parent;
  }

  -- Counts --------------------------------------------------------------------------------------

  pub near-exactly : (n : ℕ) → AreExactly (IsPromisingAndIncomplete t (HasTightBound t)) n → AreExactly (IsPriceNearAndIncomplete t) n
  near-exactly n exactly = record {
    lists = exactly.lists;
    different = exactly.different;
    of_kind = All-weaker (IsPromisingAndIncomplete t (HasTightBound t)) (IsPriceNearAndIncomplete t)
        (λ prefix is. record { near = promising-near prefix is.promising; incomplete = is.incomplete }) exactly.lists exactly.of_kind;
    every = λ prefix is. exactly.every prefix (record { promising = near-promising prefix is.near; incomplete = is.incomplete });
    number = exactly.number;
  }
