use Rattle.std.proofs.Common.{ℤ, ◌+ℤ◌, ◌-ℤ◌, ◌*ℤ◌, FitsSigned, w64, sym, ◌∙◌, arith, rules}
use Rattle.std.proofs.lemmas.Int.{ints, to_z-of_z}
use Rattle.std.proofs.lemmas.Bool.{false≢true}
use Rattle.assignment.proofs.tree.Seeker.measure.Goals as goal

pub overflow_sub-key : goal.overflow_sub-key
overflow_sub-key c =
    let mass : FitsSigned w64 c.args.self.now.mass = search rules in
    rw (to_z-of_z w64 c.args.self.now.mass mass, to_z-of_z w64 c.args.influence c.ranges.influence)
    (omega (arith, ints, c.requires.cost, c.requires.offset, c.requires.price))

pub returns-then-contains : goal.returns-then-contains
returns-then-contains c =
    let cost : ℤ = c.args.self.now.mass *ℤ c.args.influence in
    let mass : FitsSigned w64 c.args.self.now.mass = search rules in
    let influence : FitsSigned w64 c.args.influence = c.ranges.influence in
    let price : FitsSigned w64 c.args.price = c.ranges.price in
    let offset : FitsSigned w64 c.args.self.now.offset = search rules in
    let product : FitsSigned w64 (c.args.self.now.mass *ℤ c.args.influence) = omega (arith, ints, c.requires.cost) in
    let sum : FitsSigned w64 (c.args.self.now.offset +ℤ c.args.self.now.mass *ℤ c.args.influence) = omega (arith, ints, c.requires.cost, c.requires.offset) in
    let key : FitsSigned w64 ((c.args.self.now.offset +ℤ c.args.self.now.mass *ℤ c.args.influence) -ℤ c.args.price) = omega (arith, ints, c.requires.cost, c.requires.offset, c.requires.price) in
    record {
      closed = λ closed. absurd (false≢true (sym closed ∙ sym c.contains.ensures ∙ c.if-contains.true));
      opened = λ _. simp to_z-of_z at c.less_gap.ensures;
    }
