-- what is better than the claimed path, by the distance that is kept with it
use Rattle.std.proofs.Common.{◌≡◌, ◌↔◌, ℕ, List, Option, Some, None, sym, ◌∙◌, subst}
use Rattle.std.proofs.lemmas.Option.{same_Some}
use Rattle.std.specs.Prelude.{IsSomeAnd}
use Rattle.hold_limits.specs.Problem.{Problem}
use Rattle.hold_limits.specs.Placement.{Key, IsAtMost, key, distance}
use Rattle.hold_reach.specs.Reach.{bound}
use Rattle.hold_reach.proofs.ViableLemmas.{bound-complete}
use Rattle.certificate.specs.Good.{HoldsNothingBetter, IsNoBetter}
use Rattle.cert_checker.specs.FirstReason.{IsComplete}
use Rattle.cert_checker.specs.Evidence.{path_of, IsMeasured, IsAtLeast}
use Rattle.cert_checker.specs.declared.standard.Standard.{Standard}

-- a key is at least the claimed path's by the distance kept with it exactly where it is
pub at_least-key : (t : Problem) (standard : Option Standard) (k : Key) → IsMeasured t standard → IsAtLeast standard k ↔ IsSomeAnd (path_of standard) (λ path. IsAtMost (key t path) k)
at_least-key t None k measured = (λ least. least, λ least. least)
at_least-key t (Some s) k measured = (
  λ least. subst (λ d. IsAtMost (d, s.path.now.items) k) measured least,
  λ least. subst (λ d. IsAtMost (d, s.path.now.items) k) (sym measured) least,
)

-- with its bound the cut is at least the claimed path exactly where nothing better begins with it
pub at_least-idle : (t : Problem) (standard : Option Standard) (cut : List ℕ) (b : ℕ) → IsMeasured t standard → bound t cut ≡ Some b → IsAtLeast standard (b, cut) ↔ HoldsNothingBetter t (path_of standard) cut
at_least-idle t None cut b measured is = (λ least. absurd least, λ idle. absurd idle)
at_least-idle t (Some s) cut b measured is =
    let both = at_least-key t (Some s) (b, cut) measured in (
      λ least. subst (λ o. IsSomeAnd o (λ n. IsAtMost (key t s.path.now.items) (n, cut))) (sym is) (both.0 least),
      λ idle. both.1 (subst (λ o. IsSomeAnd o (λ n. IsAtMost (key t s.path.now.items) (n, cut))) is idle),
    )

-- with its bound a complete prefix is at least the claimed path exactly where it is no better
pub at_least-no_better : (t : Problem) (standard : Option Standard) (path : List ℕ) (b : ℕ) → IsMeasured t standard → IsComplete t path → bound t path ≡ Some b
    → IsAtLeast standard (b, path) ↔ IsNoBetter t (path_of standard) path
at_least-no_better t None path b measured complete is = (λ least. absurd least, λ none. absurd none)
at_least-no_better t (Some s) path b measured complete is =
    let same : b ≡ distance t path = same_Some b (distance t path) (sym is ∙ bound-complete t path complete) in
    let both = at_least-key t (Some s) (b, path) measured in (
      λ least. subst (λ n. IsAtMost (key t s.path.now.items) (n, path)) same (both.0 least),
      λ no_better. both.1 (subst (λ n. IsAtMost (key t s.path.now.items) (n, path)) (sym same) no_better),
    )
