use Rattle.std.proofs.Common.{◌≡◌, ℕ, ◌<◌, false, List, length, map, Some, sym, ap, ap₂, ◌∙◌, arith}
use Rattle.std.proofs.lemmas.Bool.{false≢true}
use Rattle.std.proofs.lemmas.Bool.Decides.{nat_tests}
use Rattle.std.proofs.lemmas.List.{length-map}
use Rattle.std.proofs.lemmas.Option.{same_Some, slice_get_within}
use Rattle.std.specs.Prelude.{nat_eq, nat_lt, slice_get, IsTrue}
use Rattle.tree_certificate.specs.Listed.{listed_sibling}
use Rattle.tree_certificate.specs.declared.parts.Sibling.{Sibling}
use Rattle.tree_checker.specs.GoodTrees.{Neighbour, neighbour_of}
use Rattle.tree_checker.specs.Steps.{places}
use Rattle.tree_checker.proofs.PlaceLemmas.{mapped-at, looked-up}
use Rattle.tree_checker.proofs.siblings.is_listed_at.Goals as goal

same-of : (a b : ℕ) → IsTrue (nat_eq a b) → a ≡ b
same-of a b is = grind (arith, nat_tests)

is-same : (a b : ℕ) → a ≡ b → IsTrue (nat_eq a b)
is-same a b same = grind (arith, nat_tests)

not-within : (a b : ℕ) → false ≡ nat_lt a b → a < b → ⊥
not-within a b past less = grind (arith, nat_tests)

listed-is : (siblings : List Sibling) (at : ℕ) (s : Sibling) → slice_get siblings at ≡ Some s → slice_get (places siblings) at ≡ Some (s.rank, s.position)
listed-is siblings at s is = mapped-at neighbour_of (map listed_sibling siblings) at (listed_sibling s) (mapped-at listed_sibling siblings at s is)

pub returns-then-from-rank-clause-is : goal.returns-then-from-rank-clause-is
returns-then-from-rank-clause-is c =
    let siblings = c.args.siblings.now in
    let s = c.in-Some.sibling.now in
    let there = listed-is siblings c.args.at s (looked-up siblings c.args.at s c.in-Some.ensures.lookup.0 c.in-Some.ensures.lookup.1) in
    let rank : s.rank ≡ c.args.rank = sym c.from.ensures ∙ c.if-from-rank.true in (
      λ same. there ∙ ap₂ (λ r p. Some (r, p)) rank (same-of s.position c.args.position same),
      λ is. is-same s.position c.args.position (ap (λ (n : Neighbour). n.1) (same_Some (s.rank, s.position) (c.args.rank, c.args.position) (sym there ∙ is))),
    )

pub returns-else-from-rank-clause-is : goal.returns-else-from-rank-clause-is
returns-else-from-rank-clause-is c =
    let siblings = c.args.siblings.now in
    let s = c.in-Some.sibling.now in
    let there = listed-is siblings c.args.at s (looked-up siblings c.args.at s c.in-Some.ensures.lookup.0 c.in-Some.ensures.lookup.1) in (
      λ same. absurd (c.if-from-rank.false (same-of c.from.result c.args.rank same)),
      λ is. is-same c.from.result c.args.rank (c.from.ensures ∙ ap (λ (n : Neighbour). n.0) (same_Some (s.rank, s.position) (c.args.rank, c.args.position) (sym there ∙ is))),
    )

pub returns-in-None-clause-is : goal.returns-in-None-clause-is
returns-in-None-clause-is c =
    let siblings = c.args.siblings.now in (
      λ is. absurd (false≢true is),
      λ is. absurd (not-within c.args.at (length siblings) c.in-None.ensures.lookup.0
          (omega (arith, slice_get_within (places siblings) c.args.at (c.args.rank, c.args.position) is, length-map siblings listed_sibling, length-map (map listed_sibling siblings) neighbour_of))),
    )
