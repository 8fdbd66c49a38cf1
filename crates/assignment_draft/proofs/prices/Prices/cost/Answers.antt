use Rattle.std.proofs.Common.{arith}
use Rattle.std.specs.Prelude.{pos, ◌*ℤ◌}
use Rattle.assignment.specs.Tables.{IsWithin, candidate_at, influence_at, nobody, cost_at}
use Rattle.assignment.specs.Standings.{greatest_cost}
use Rattle.assignment.proofs.Bounds.{cost-near, within-abs}
use Rattle.assignment_draft.specs.Drafts.{table}
use Rattle.assignment_draft.proofs.NearNumbers.{read}
use Rattle.assignment_draft.proofs.prices.Prices.cost.Goals as goal

pub returns-clause-value : goal.returns-clause-value
unfolding cost_at
returns-clause-value c =
    let costs = table c.args.self.now.candidates.items c.args.self.now.influences.items in
    let mass : IsWithin 20000 (pos (candidate_at costs c.args.number).mass) = within-abs 20000 _ (c.requires.sound.ordinary.light c.args.number nobody c.requires.number) in
    let influence : IsWithin 100000 (influence_at costs c.args.position) = within-abs 100000 _ (c.requires.sound.ordinary.near c.args.position (pos 0) c.requires.position) in
    let cost : IsWithin greatest_cost (pos (candidate_at costs c.args.number).mass *ℤ influence_at costs c.args.position) = cost-near costs c.requires.sound.ordinary c.args.number c.args.position in
    rw (c.from-2.ensures, c.deref-2.ensures.0, c.from-3.ensures, c.deref.ensures.0, c.from.ensures, read 20000 _ (omega arith) mass, read 100000 _ (omega arith) influence, read greatest_cost _ (omega arith) cost)
    (λ i. pos (candidate_at costs c.args.number).mass *ℤ influence_at costs c.args.position)

pub returns-clause-near : goal.returns-clause-near
returns-clause-near c =
    rw (returns-clause-value c) (cost-near (table c.args.self.now.candidates.items c.args.self.now.influences.items) c.requires.sound.ordinary c.args.number c.args.position)
