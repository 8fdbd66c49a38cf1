use Rattle.std.proofs.Common.{◌+◌, ap, sym, ◌∙◌, arith}
use Rattle.last_minute.proofs.StowedLemmas.{light-at, load-here, load-elsewhere, load-whole}
use Rattle.last_minute.proofs.places.Stowage.mass_of_containers_on.Goals.{then-self-rank, else-self-rank}
use Rattle.last_minute.proofs.places.Stowage.mass_of_containers_on.Goals as goal

pub overflow_add-mass : goal.overflow_add-mass
overflow_add-mass c =
    let light = light-at c.args.self.now.items.now c.loop-rank.rank c.item_at.result.now c.requires.containers_light (omega (arith, c.requires.complete)) c.item_at.ensures in
    omega (arith, light, c.loop-rank.invariant.1, c.requires.few)

pub loop-rank-preserved : goal.loop-rank-preserved
loop-rank-preserved c = elim c.if-self-rank.branch [
  | then-self-rank w ↦
      let s = c.args.self.now in
      let item = w.item_at.result.now in
      let light = light-at s.items.now c.loop-rank.rank item c.requires.containers_light (omega (arith, c.requires.complete)) w.item_at.ensures in
      let next = load-here s c.args.number c.loop-rank.rank item c.requires c.loop-rank-test.true w.item_at.ensures w.if-self-rank.true in
      (w.mass-is ∙ ap (λ mass. mass + item.mass.0) c.loop-rank.invariant.0 ∙ sym next, omega (arith, light, w.mass-is, c.loop-rank.invariant.1))
  | else-self-rank w ↦
      let next = load-elsewhere c.args.self.now c.args.number c.loop-rank.rank c.requires c.loop-rank-test.true w.if-self-rank.false in
      (w.mass-is ∙ c.loop-rank.invariant.0 ∙ sym next, omega (arith, w.mass-is, c.loop-rank.invariant.1))
]

pub returns-clause-mass : goal.returns-clause-mass
returns-clause-mass c =
    c.loop-rank.invariant.0 ∙ load-whole _ c.args.self.now c.loop-rank.rank c.requires c.loop-rank-test.false
