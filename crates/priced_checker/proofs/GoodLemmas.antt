-- what a good certificate with prices proves
use Rattle.std.proofs.Common.{⊎_elim, ℕ, ◌≤◌, ℤ, ◌+ℤ◌, ◌≤ℤ◌, List, ◌++◌, Option, Some, None, sym, subst, arith}
use Rattle.std.proofs.lemmas.Int.{ints}
use Rattle.std.proofs.lemmas.List.Elements.{All-contains, All-map}
use Rattle.std.specs.Prelude.{All, IsSomeAnd}
use Rattle.std.specs.List.{Contains}
use Rattle.base_words.specs.Lists.{Extends}
use Rattle.hold_limits.specs.Problem.{Problem}
use Rattle.hold_limits.specs.Placement.{IsAtMost, IsAdmissible, IsBest, key, distance, hold_index}
use Rattle.hold_limits.specs.Twins.{IsRising}
use Rattle.hold_limits.proofs.KeyOrder.{IsAtMost-trans}
use Rattle.hold_reach.specs.Reach.{Meets, gap_to_ideal}
use Rattle.hold_reach.specs.Choices.{IsWithin}
use Rattle.hold_reach.proofs.ViableLemmas.{gap-most}
use Rattle.certificate.specs.Good.{IsNoBetter}
use Rattle.cert_checker.specs.Claims.{HasNoPlacement}
use Rattle.cert_checker.proofs.PathOrder.{at_most-extension}
use Rattle.cert_checker.proofs.GoodLemmas.{covers-best, covers-none}
use Rattle.assignment_prices.specs.Priced.{price_span}
use Rattle.assignment_prices.proofs.WayLemmas.{allows-path}
use Rattle.assignment_prices.proofs.PriceLemmas.{allowed-priced}
use Rattle.priced_certificate.specs.declared.parts.PricedCut.{PricedCut}
use Rattle.priced_checker.specs.Good.{prefix_of, prefixes_of, IsPriced, IsBeyond, IsIdle, IsGoodPriced}

-- a path whose hold index is in a span that is beyond is no better than the claimed path
beyond-no_better : (t : Problem) (claim : Option (List ℕ)) (prefix rest : List ℕ) (span : ℤ × ℤ) → t.ideal_low ≤ℤ t.ideal_high → IsBeyond t claim prefix span
    → IsAdmissible t (prefix ++ rest) → IsWithin span (hold_index t (prefix ++ rest)) → IsNoBetter t claim (prefix ++ rest)
beyond-no_better t claim prefix rest span band beyond admissible within = ⊎_elim
    (λ (apart : Meets t.low t.high (Some span) → ⊥). absurd (apart record {
      number = hold_index t (prefix ++ rest);
      from_a = within.0;
      to_b = within.1;
      from_c = admissible.low;
      to_d = admissible.high;
    }))
    (λ (least : IsSomeAnd claim (λ path. IsAtMost (key t path) (gap_to_ideal t span, prefix))). by_claim claim least)
    beyond
  where
    near : gap_to_ideal t span ≤ distance t (prefix ++ rest)
    near = gap-most (t.base +ℤ span.0) (t.base +ℤ span.1) t.ideal_low t.ideal_high (t.base +ℤ hold_index t (prefix ++ rest)) band (omega (arith, ints, within.0)) (omega (arith, ints, within.1))

    by_claim : (claim : Option (List ℕ)) → IsSomeAnd claim (λ path. IsAtMost (key t path) (gap_to_ideal t span, prefix)) → IsNoBetter t claim (prefix ++ rest)
    by_claim None least = absurd least
    by_claim (Some path) least = IsAtMost-trans (key t path) (gap_to_ideal t span, prefix) (key t (prefix ++ rest)) least
        (at_most-extension (gap_to_ideal t span) (distance t (prefix ++ rest)) prefix rest near)

-- nothing better than the claimed path begins with a cut that is idle by its prices
priced-idle : (t : Problem) (claim : Option (List ℕ)) (cut : PricedCut) → t.ideal_low ≤ℤ t.ideal_high → IsPriced t cut → IsIdle t claim cut
    → (other : List ℕ) → IsAdmissible t other → IsRising t other → Extends (prefix_of cut) other → IsNoBetter t claim other
priced-idle t claim cut band priced idle other admissible rising extends =
    let prefix = prefix_of cut in
    let rest = extends.0 in
    let whole : IsAdmissible t (prefix ++ rest) = subst (IsAdmissible t) extends.1 admissible in
    let rises : IsRising t (prefix ++ rest) = subst (λ p. IsRising t p) extends.1 rising in
    let within = allowed-priced t prefix cut.prices (hold_index t (prefix ++ rest)) priced (allows-path t prefix rest whole rises) in
    subst (IsNoBetter t claim) (sym extends.1) (beyond-no_better t claim prefix rest (price_span t prefix cut.prices) band idle whole within)

idle-cuts : (t : Problem) (claim : Option (List ℕ)) (cuts : List PricedCut) → t.ideal_low ≤ℤ t.ideal_high → All (IsPriced t) cuts → All (IsIdle t claim) cuts
    → (cut : List ℕ) → Contains (prefixes_of cuts) cut → (other : List ℕ) → IsAdmissible t other → IsRising t other → Extends cut other → IsNoBetter t claim other
idle-cuts t claim cuts band priced idle cut among =
    let Turns : List ℕ → Type 0 = λ cut. (other : List ℕ) → IsAdmissible t other → IsRising t other → Extends cut other → IsNoBetter t claim other in
    All-contains Turns (prefixes_of cuts) cut (All-map Turns prefix_of cuts (λ k d within. priced-idle t claim _ band (priced k d within) (idle k d within))) among

-- a good certificate that claims a path proves it best
pub good-best : (t : Problem) (path : List ℕ) (cuts : List PricedCut) (expanded : ℕ) → t.ideal_low ≤ℤ t.ideal_high → IsGoodPriced t (Some path) cuts expanded → IsBest t path
good-best t path cuts expanded band good = covers-best t path (prefixes_of cuts) expanded band good.covers (idle-cuts t (Some path) cuts band good.priced good.idle)

-- a good certificate that claims none proves that no path is admissible
pub good-none : (t : Problem) (cuts : List PricedCut) (expanded : ℕ) → t.ideal_low ≤ℤ t.ideal_high → IsGoodPriced t None cuts expanded → HasNoPlacement t
good-none t cuts expanded band good = covers-none t (prefixes_of cuts) expanded good.covers (idle-cuts t None cuts band good.priced good.idle)
