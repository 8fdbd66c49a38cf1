use Rattle.std.proofs.Common.{refl, ◌≡◌, ◌+◌, ◌<◌, pos, ◌+ℤ◌, ◌≤ℤ◌, get_or, w64, to_z, of_z, ap, sym, ◌∙◌, subst, arith, length, Some}
use Rattle.std.proofs.lemmas.Option.{get_or_from_slice_get}
use Rattle.hold_limits.specs.Placement.{placed_moment}
use Rattle.assignment_prices.specs.Steps.{counted_from}
use Rattle.std.specs.Prelude.{slice_get}
use Rattle.std.proofs.lemmas.Bool.{false≢true}
use Rattle.std.proofs.lemmas.Int.{ints, to_z-of_z}
use Rattle.hold_limits.specs.Problem.{Problem}
use Rattle.hold_limits.specs.BranchOrder.{ordered}
use Rattle.hold_limits.proofs.LawfulBounds.{lawful-bounds}
use Rattle.hold_reach.proofs.ChoiceLemmas.{is_open-Decides}
use Rattle.assignment_prices.proofs.SpanLemmas.{rank-within, remaining-at, sum-fits}
use Rattle.assignment_prices.proofs.price_span.bounds_on.Goals as goal

pub overflow_cast-rank : goal.overflow_cast-rank
overflow_cast-rank c =
    let within = rank-within c.args.partial.now.task c.args.partial.now.prefix c.args.at (length c.args.half.now.items.now) c.requires.whole.one_each c.requires.left in
    let few = (lawful-bounds c.args.partial.now.task c.task-task.ensures.lawful).items in
    omega (arith, within, few, ap length c.prefix.ensures.value)

pub is_open-requires-clause-known : goal.is_open-requires-clause-known
is_open-requires-clause-known c =
    omega (arith, rank-within c.args.partial.now.task c.args.partial.now.prefix c.args.at (length c.args.half.now.items.now) c.requires.whole.one_each c.requires.left, ap length c.prefix.ensures.value)

pub returns-then-not-is_open : goal.returns-then-not-is_open
returns-then-not-is_open c item price there priced =
    let t = c.args.partial.now.task in
    let prefix = c.args.partial.now.prefix in
    let at = subst (λ p. slice_get (ordered t.items) (length p + c.args.at) ≡ Some item) (sym c.prefix.ensures.value) (remaining-at t prefix c.args.at item there) in
    (λ yes may. absurd (false≢true (sym c.if-not-is_open.true ∙ c.is_open.ensures item at ∙ (is_open-Decides t prefix item c.args.number).1 may)), λ bounds. refl)

pub moment_on-requires : goal.moment_on-requires
moment_on-requires c = record {
  known = omega (arith, rank-within c.args.partial.now.task c.args.partial.now.prefix c.args.at (length c.args.half.now.items.now) c.requires.whole.one_each c.requires.left, ap length c.prefix.ensures.value, ap (λ p. length p.items) c.task-task.ensures.value);
}

pub returns : goal.returns
returns c item price there priced =
    let t = c.args.partial.now.task in
    let prefix = c.args.partial.now.prefix in
    let at = subst (λ p. slice_get (ordered t.items) (length p + c.args.at) ≡ Some item) (sym c.prefix.ensures.value) (remaining-at t prefix c.args.at item there) in
    let told = c.is_open.ensures item at in
    let at_rank = subst (λ (u : Problem). slice_get (ordered u.items) (length c.prefix.result.now + c.args.at) ≡ Some item) (sym c.task-task.ensures.value) at in
    let items = c.args.half.now.items.now in
    let places = c.args.half.now.places.now in
    let moment : to_z w64 (of_z w64 c.moment_on.result) ≡ placed_moment t.hold (item, c.args.number) =
    to_z-of_z w64 c.moment_on.result (omega (arith, ints, c.moment_on.ensures.bounded))
    ∙ c.moment_on.ensures.value item at_rank
    ∙ ap (λ (u : Problem). placed_moment u.hold (item, c.args.number)) c.task-task.ensures.value in
    let number : c.args.number < length places = omega (arith, c.requires.known, c.requires.whole.one_place) in
    let sum = sum-fits (get_or items c.args.at (pos 0)) (get_or places c.args.number (pos 0)) (c.requires.whole.small_items c.args.at (pos 0) c.requires.left) (c.requires.whole.small_places c.args.number (pos 0) number)
    ∙ ap (λ x. x +ℤ get_or places c.args.number (pos 0)) (get_or_from_slice_get items c.args.at price (pos 0) priced) in
    let end = c.args.half.now.end in (
      λ yes may. subst (λ x. counted_from end x ≤ℤ counted_from end (placed_moment t.hold (item, c.args.number))) sum
          (subst (λ y. counted_from end (to_z w64 (of_z w64 (to_z w64 (of_z w64 (get_or items c.args.at (pos 0))) +ℤ to_z w64 (of_z w64 (get_or places c.args.number (pos 0)))))) ≤ℤ counted_from end y) moment (c.is_nearer.ensures.0 yes)),
      λ bounds. c.is_nearer.ensures.1
          (subst (λ y. counted_from end (to_z w64 (of_z w64 (to_z w64 (of_z w64 (get_or items c.args.at (pos 0))) +ℤ to_z w64 (of_z w64 (get_or places c.args.number (pos 0)))))) ≤ℤ counted_from end y) (sym moment)
          (subst (λ x. counted_from end x ≤ℤ counted_from end (placed_moment t.hold (item, c.args.number))) (sym sum)
          (bounds ((is_open-Decides t prefix item c.args.number).0 (sym told ∙ c.if-not-is_open.false))))),
    )
