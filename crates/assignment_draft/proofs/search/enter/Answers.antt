use Rattle.std.proofs.Common.{◌≡◌, ℕ, ◌<◌, None, Some, length, get_or, ap, arith, rules}
use Rattle.std.specs.Prelude.{IfSome}
use Rattle.std.specs.declared.option.Option.{Option}
use Rattle.std.proofs.lemmas.List.Elements.{All-get_or}
use Rattle.assignment_draft.proofs.PriceSteps.{moved-again}
use Rattle.assignment_draft.proofs.search.enter.Goals as goal

pub take-requires-clause-from : goal.take-requires-clause-from
take-requires-clause-from c = λ k d within.
    let member = c.approach.ensures.tree.from k d within in
    let candidates = ap length c.approach.ensures.moved.candidates in
    let before = ap length c.loop.invariant.moved.candidates in
    omega (arith, member, candidates, before, c.loop.invariant.seated.size)

pub reach-requires-clause-position : goal.reach-requires-clause-position
reach-requires-clause-position c =
    let known = rw c.in-Some.is at (c.nearest-nearest.ensures.known (length c.loop.prices.influences.items) c.join.ensures.ahead) in
    let influences = ap length c.approach.ensures.moved.influences in
    omega (arith, known, influences)

pub bounds : goal.bounds
bounds c =
    let known = rw c.in-Some.is at (c.nearest-nearest.ensures.known (length c.loop.prices.influences.items) c.join.ensures.ahead) in
    omega (arith, c.from.ensures, known, c.loop.invariant.moved.sound.ordinary.few_positions)

pub loop-preserved : goal.loop-preserved
loop-preserved c =
    let start = c.args.prices.now in
    let now = c.approach.new.prices in
    let kept = c.loop.invariant in
    let moved = moved-again start c.loop.prices now kept.moved c.approach.ensures.moved in
    let holders = c.loop.seats.holders in
    let size : length holders ≡ 64 = search rules in
    let known = rw c.in-Some.is at (c.nearest-nearest.ensures.known (length c.loop.prices.influences.items) c.join.ensures.ahead) in
    let holder = All-get_or (λ (holder : Option ℕ). IfSome holder (λ number. number < length start.candidates.items)) holders c.in-Some.position None
    (omega (arith, known, kept.moved.sound.ordinary.few_positions, size)) kept.seated.holders in
    let held : get_or holders c.in-Some.position None ≡ Some c.in-Some-holders.holder = rw c.from.ensures at c.in-Some-holders.is in
    record {
      moved = moved;
      tree = c.reach.ensures;
      number = let member = rw held at holder in let candidates = ap length moved.candidates in omega (arith, member, candidates);
      seated = kept.seated;
    }
