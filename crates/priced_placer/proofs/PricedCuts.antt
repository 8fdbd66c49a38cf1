-- cuts that get their prices
use Rattle.std.proofs.Common.{refl, ◌≡◌, ℕ, ◌<◌, ℤ, ◌<ℤ◌, List, [], ◌∷◌, ◌++◌, length, get_or, Some, None, sym, ap, ap₂, ◌∙◌, subst, arith}
use Rattle.std.proofs.lemmas.List.{get_or-map, length-map, map-append}
use Rattle.std.proofs.lemmas.List.Elements.{All-head}
use Rattle.std.specs.Prelude.{All}
use Rattle.arrayvec.specs.ArrayVec.{ArrayVec}
use Rattle.hold_limits.specs.Problem.{Problem}
use Rattle.hold_limits.specs.Placement.{IsSound}
use Rattle.hold_limits.proofs.SoundLemmas.{IsSound-front}
use Rattle.hold_reach.specs.Reach.{IsViable}
use Rattle.certificate.specs.Evidence.{paths_of}
use Rattle.assignment_prices.specs.declared.prices.Prices.{Prices}
use Rattle.assignment_prices.specs.Priced.{ArePricesOf, price_span}
use Rattle.assignment_prices.specs.TightReach.{IsTightReach}
use Rattle.priced_certificate.specs.declared.parts.PricedCut.{PricedCut}
use Rattle.priced_checker.specs.Good.{prefix_of, prefixes_of}
use Rattle.priced_placer.specs.PriceNear.{IsTightlyPriced}

-- what prices of a prefix show
pub record AreTightPrices (t : Problem) (prefix : List ℕ) (x : Prices) : Type 0 where
  pub prices : ArePricesOf t prefix x
  pub tight : (ends : ℤ × ℤ) → IsTightReach t prefix (Some ends) → price_span t prefix x ≡ ends
  pub none : IsTightReach t prefix None → (price_span t prefix x).1 <ℤ (price_span t prefix x).0

-- the prices of a placement that has moved to the cut's prefix
pub moved-priced : (t task : Problem) (moved : List ℕ) (cut : PricedCut) → task ≡ t → moved ≡ prefix_of cut → AreTightPrices task moved cut.prices → IsTightlyPriced t cut
moved-priced t task moved cut same there are =
    let here : AreTightPrices t (prefix_of cut) cut.prices =
    subst (λ prefix. AreTightPrices t prefix cut.prices) there (subst (λ (task : Problem). AreTightPrices task moved cut.prices) same are) in
    record { priced = here.prices; tight = here.tight; none = here.none }

-- where no prefix is sound, none is viable
pub none-viable : (t : Problem) (paths : List (List ℕ)) → (IsSound t [] → ⊥) → All (IsViable t) paths → paths ≡ []
none-viable t [] unsound viable = refl
none-viable t (path ∷ paths) unsound viable = absurd (unsound (IsSound-front t [] path (All-head (IsViable t) path paths viable).sound))

-- One cut more ----------------------------------------------------------------------------------

-- the path that comes next is viable, since all are
pub viable-next : (t : Problem) (paths : List (ArrayVec ℕ)) (k : ℕ) (path : ArrayVec ℕ) → k < length paths → path ≡ get_or paths k path → All (IsViable t) (paths_of paths) → IsViable t path.items
viable-next t paths k path within next viable =
    subst (IsViable t) (get_or-map numbers paths k path path.items within ∙ ap numbers (sym next))
    (viable k path.items (omega (arith, within, length-map paths numbers)))
  where
    numbers : ArrayVec ℕ → List ℕ
    numbers path = path.items

-- a cut more has a path more
pub prefixes-next : (cuts : List PricedCut) (cut : PricedCut) (paths : List (ArrayVec ℕ)) (path : ArrayVec ℕ) → prefixes_of cuts ≡ paths_of paths → cut.prefix ≡ path
    → prefixes_of (cuts ++ cut ∷ []) ≡ paths_of (paths ++ path ∷ [])
prefixes-next cuts cut paths path so_far same =
    map-append prefix_of cuts (cut ∷ [])
    ∙ ap₂ (λ front (last : ArrayVec ℕ). front ++ last.items ∷ []) so_far same
    ∙ sym (map-append (λ (path : ArrayVec ℕ). path.items) paths (path ∷ []))
