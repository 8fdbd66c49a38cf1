use Rattle.std.proofs.Common.{◌≡◌, ◌+◌, ◌<◌, ◌++◌, length, map, get_or, refl, sym, ap, ◌∙◌, subst, arith}
use Rattle.std.proofs.lemmas.Bool.{false≢true}
use Rattle.std.proofs.lemmas.List.{length-map, get_or-map}
use Rattle.std.specs.Prelude.{slice_index}
use Rattle.position_set.specs.declared.set.PositionSet.{PositionSet}
use Rattle.position_set.specs.Sets.{members}
use Rattle.price_trees.specs.Narrowing.{full}
use Rattle.tree_checker.specs.GoodTrees.{smaller_at}
use Rattle.tree_checker.specs.Steps.{places, neighbours_from, LeadsTo}
use Rattle.tree_checker.proofs.Comparing.{leads-itself, leads-on, neighbours-at, step-idle, step-needed, step-differs}
use Rattle.tree_checker.proofs.siblings.check_rank.Goals as goal

pub loop-position-init : goal.loop-position-init
loop-position-init c =
    let t = c.args.evidence.now.task.now in
    let path = c.args.path.now in
    let rank = c.args.rank in
    let listed = places c.args.siblings.now in
    let sets = c.sets.result.now in
    let set : PositionSet = get_or sets rank record { 0 = 0 } in
    let whole : map members sets ≡ full t = c.sets.ensures.sets ∙ c.requires.full in
    let within : rank < length sets = omega (arith, c.requires.has_set, ap length c.sets.ensures.sets, length-map sets members) in
    let has : rank < length (full t) = omega (arith, within, ap length whole, length-map sets members) in
    let is : get_or (full t) rank (members set) ≡ members set = ap (λ xs. get_or xs rank (members set)) (sym whole) ∙ get_or-map members sets rank record { 0 = 0 } (members set) within in
    let later = neighbours_from t path (rank + 1) in
    subst (λ all. LeadsTo t path listed all c.args.start (smaller_at rank (slice_index path rank) (members set) ++ later) c.args.start)
    (sym (neighbours-at t path rank (members set) c.requires.within has is))
    (leads-itself t path listed (smaller_at rank (slice_index path rank) (members set) ++ later) c.args.start)

pub loop-position-preserved-then-not-is_needed : goal.loop-position-preserved-then-not-is_needed
loop-position-preserved-then-not-is_needed c =
    let t = c.args.evidence.now.task.now in
    let path = c.args.path.now in
    let rank = c.args.rank in
    let listed = places c.args.siblings.now in
    let later = neighbours_from t path (rank + 1) in
    let next = c.loop-position.next in
    leads-on t path listed (neighbours_from t path rank) _ _ c.args.start next next c.loop-position.invariant
    (step-idle t path listed later rank c.in-Some.position (members c.loop-position.rest) (members c.take_first.new.self) next c.in-Some.ensures.1 (c.is_needed.ensures.idle c.if-not-is_needed.true))

pub returns-then-not-is_listed_at-clause-differ : goal.returns-then-not-is_listed_at-clause-differ
returns-then-not-is_listed_at-clause-differ c =
    let t = c.args.evidence.now.task.now in
    let path = c.args.path.now in
    let rank = c.args.rank in
    let listed = places c.args.siblings.now in
    let next = c.loop-position.next in (
      next,
      refl,
      c.loop-position.invariant.differs next
          (step-differs t path listed (neighbours_from t path (rank + 1)) rank c.in-Some.position (members c.loop-position.rest) (members c.take_first.new.self) next c.in-Some.ensures.1
          (c.is_needed.ensures.needed c.if-not-is_needed.false)
          (λ is. false≢true (sym c.if-not-is_listed_at.true ∙ c.is_listed_at.ensures.is.1 is))),
    )

pub loop-position-preserved : goal.loop-position-preserved
loop-position-preserved c =
    let t = c.args.evidence.now.task.now in
    let path = c.args.path.now in
    let rank = c.args.rank in
    let listed = places c.args.siblings.now in
    let later = neighbours_from t path (rank + 1) in
    let next = c.loop-position.next in
    leads-on t path listed (neighbours_from t path rank) _ _ c.args.start next (next + 1) c.loop-position.invariant
    (step-needed t path listed later rank c.in-Some.position (members c.loop-position.rest) (members c.take_first.new.self) next c.in-Some.ensures.1
    (c.is_needed.ensures.needed c.if-not-is_needed.false) (c.is_listed_at.ensures.is.0 c.if-not-is_listed_at.false))
