use Rattle.std.proofs.Common.{◌≡◌, ◌<◌, ◌≤◌, List, length, map, drop, refl, sym, subst, arith}
use Rattle.std.proofs.lemmas.List.{length-map}
use Rattle.tree_certificate.specs.Listed.{listed_sibling}
use Rattle.tree_certificate.specs.declared.parts.Sibling.{Sibling}
use Rattle.tree_checker.specs.GoodTrees.{neighbour_of, AreNeeded}
use Rattle.tree_checker.specs.Steps.{places, DiffersFrom}
use Rattle.tree_checker.proofs.Comparing.{none-from, too-many, needed-end}
use Rattle.tree_checker.proofs.siblings.check_siblings.Goals as goal

-- as many places as siblings
length-places : (siblings : List Sibling) → length (places siblings) ≡ length siblings
length-places siblings = omega (arith, length-map siblings listed_sibling, length-map (map listed_sibling siblings) neighbour_of)

pub returns-then-next-siblings-clause-differ : goal.returns-then-next-siblings-clause-differ
returns-then-next-siblings-clause-differ c =
    let t = c.args.evidence.now.task.now in
    let path = c.args.path.now in
    let listed = places c.args.siblings.now in
    let next = c.loop-rank.next in
    let within : next < length listed = omega (arith, c.if-next-siblings.true, length-places c.args.siblings.now) in
    let none = none-from t path c.loop-rank.rank (omega (arith, c.loop-rank-test.false)) in (
      next,
      refl,
      c.loop-rank.invariant.differs next (subst (λ more. DiffersFrom t path listed more next next) (sym none) (too-many t path listed next within)),
    )

pub returns-clause-needed : goal.returns-clause-needed
returns-clause-needed c =
    let t = c.args.evidence.now.task.now in
    let path = c.args.path.now in
    let listed = places c.args.siblings.now in
    let next = c.loop-rank.next in
    let past : length listed ≤ next = omega (arith, c.if-next-siblings.false, length-places c.args.siblings.now) in
    let none = none-from t path c.loop-rank.rank (omega (arith, c.loop-rank-test.false)) in
    c.loop-rank.invariant.needed (subst (λ more. AreNeeded t path more (drop next listed)) (sym none) (needed-end t path listed next past))
