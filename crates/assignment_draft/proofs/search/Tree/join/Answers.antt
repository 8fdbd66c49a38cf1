use Rattle.std.proofs.Common.{◌≡◌, ⊎_elim, ℕ, Bool, true, false, not, ◌&&◌, get_or, ap, sym, ◌∙◌, refl, arith}
use Rattle.std.specs.Prelude.{pos, ◌-ℤ◌, ◌≤ℤ◌}
use Rattle.std.proofs.lemmas.Int.{ints}
use Rattle.std.proofs.lemmas.Bool.{cases_Bool}
use Rattle.position_set.specs.Sets.{has}
use Rattle.assignment.specs.Prices.{price_at}
use Rattle.assignment.specs.Tables.{nobody, IsWithin, MayTake}
use Rattle.assignment_draft.specs.Trees.{IsMeasured, IsOpen, most_moved}
use Rattle.assignment_draft.proofs.NearNumbers.{read, read-item}
use Rattle.assignment_draft.proofs.Rests.{and-left}
use Rattle.assignment_draft.proofs.TreeSteps.{closer-measured, tree-joined, room-near}
use Rattle.assignment_draft.proofs.search.Tree.join.Goals as goal

pub look_at-requires-clause-are_open : goal.look_at-requires-clause-are_open
unfolding MayTake
look_at-requires-clause-are_open c = λ q there.
    let fresh : has c.difference-fresh.result q ≡ true = and-left _ (not (has c.args.seats.now.held q)) (sym (c.difference.ensures q) ∙ there) in
    let may : has (get_or c.deref.result.now c.from.result nobody).open q ≡ true = and-left _ (not (has c.args.self.now.reached q)) (sym (c.difference-fresh.ensures q) ∙ fresh) in
    rw (c.deref.ensures.0, c.from.ensures) at may

pub look_at-requires-2-clause-are_open : goal.look_at-requires-2-clause-are_open
unfolding MayTake
look_at-requires-2-clause-are_open c = λ q there.
    let fresh : has c.difference-fresh.result q ≡ true = and-left _ (has c.args.seats.now.held q) (sym (c.intersection.ensures q) ∙ there) in
    let may : has (get_or c.deref.result.now c.from.result nobody).open q ≡ true = and-left _ (not (has c.args.self.now.reached q)) (sym (c.difference-fresh.ensures q) ∙ fresh) in
    rw (c.deref.ensures.0, c.from.ensures) at may

and-both : (a b : Bool) → a ≡ true → b ≡ true → (a && b) ≡ true
and-both a b one other = rw (one, other) refl

pub returns : goal.returns
unfolding MayTake
returns c =
    let prices = c.args.prices.now in
    let start = c.args.self.now in
    let between = c.look_at.new.self in
    let tree = c.look_at-2.new.self in
    let number = c.args.number in
    let grown = c.look_at-2.ensures.tree in
    let item = c.requires.sound.items number in
    let room : IsWithin most_moved tree.room = room-near prices tree grown in
    let own : IsWithin most_moved (pos 1002000000000 -ℤ price_at prices.items.items number) = record { above = omega (arith, ints, item.below); below = omega (arith, ints, item.above) } in
    let lesser = rw (
      read most_moved tree.room (omega arith) room,
      c.deref-2.ensures.0,
      c.from-2.ensures,
      read-item prices c.requires.sound number,
      read most_moved (pos 1002000000000 -ℤ price_at prices.items.items number) (omega arith) own,
    ) at c.lesser-self.ensures in
    let low : pos 0 ≤ℤ c.lesser-self.result = lesser.greatest (pos 0) grown.room_low (omega (arith, ints, item.below)) in
    let near : IsWithin most_moved c.lesser-self.result = record { above = omega (arith, ints, low); below = omega (arith, ints, lesser.one, room.below) } in
    let measured : (q : ℕ) → has tree.reached q ≡ false → IsOpen prices number q → IsMeasured prices tree number q = λ q fresh may.
    let not_reached : has start.reached q ≡ false = ap (λ set. has set q) (sym (c.look_at-2.ensures.closer.reached ∙ c.look_at.ensures.closer.reached)) ∙ fresh in
    let open_too : has (get_or c.deref.result.now c.from.result nobody).open q ≡ true = rw (c.deref.ensures.0, c.from.ensures) may in
    let in_fresh : has c.difference-fresh.result q ≡ true = c.difference-fresh.ensures q ∙ and-both _ (not (has start.reached q)) open_too (ap not not_reached) in
    ⊎_elim
    (λ (held : has c.args.seats.now.held q ≡ true). c.look_at-2.ensures.seen q (c.intersection.ensures q ∙ and-both _ (has c.args.seats.now.held q) in_fresh held))
    (λ (free : has c.args.seats.now.held q ≡ false).
    closer-measured prices between tree c.look_at-2.ensures.closer number q (c.look_at.ensures.seen q (c.difference.ensures q ∙ and-both _ (not (has c.args.seats.now.held q)) in_fresh (ap not free))))
    (cases_Bool (has c.args.seats.now.held q)) in
    rw (read most_moved c.lesser-self.result (omega arith) near)
    (tree-joined prices tree number c.with-self.result c.lesser-self.result grown c.requires.number c.with-self.ensures measured low lesser.one (omega (arith, ints, lesser.other)))
