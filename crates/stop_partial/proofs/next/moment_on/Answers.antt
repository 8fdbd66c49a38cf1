use Rattle.std.proofs.Common.{rules, ◌≡◌, ◌≤◌, sym, ◌∙◌, subst, unsigned_abs, w32}
use Rattle.std.proofs.lemmas.Int.{to_z-of_z}
use Rattle.hold_parts.specs.declared.parts.Item.{Item}
use Rattle.hold_limits.specs.Problem.{Problem}
use Rattle.hold_reach.specs.declared.extent.Extent.TheVariants.{WideReach}
use Rattle.hold_reach.proofs.LoadLemmas.{mass-at}
use Rattle.hold_reach.proofs.ReachLemmas.{amount-bound}
use Rattle.stop_partial.proofs.NextLemmas.{moment-read}
use Rattle.stop_partial.proofs.next.moment_on.Goals as goal

pub returns-clause-value : goal.returns-clause-value
returns-clause-value c item there =
    let t : Problem = c.args.task.now in
    let same : c.at_rank.result.now ≡ item = cc (sym c.at_rank.ensures.value ∙ there) in
    let few : item.mass.0 ≤ 20000 = mass-at t c.at_rank.ensures.lawful c.args.rank item c.requires there in
    moment-read t item c.args.number c.from.result c.from-2.result c.at_rank.ensures.lawful few (rw same at c.from.ensures) (c.from-2.ensures ∙ to_z-of_z w32 c.influence_at.result (search rules) ∙ rw c.hold.ensures.value at c.influence_at.ensures)

pub returns-clause-bounded : goal.returns-clause-bounded
returns-clause-bounded c =
    let t : Problem = c.args.task.now in
    let item : Item = c.at_rank.result.now in
    let few : item.mass.0 ≤ 20000 = mass-at t c.at_rank.ensures.lawful c.args.rank item c.requires c.at_rank.ensures.value in
    let read = moment-read t item c.args.number c.from.result c.from-2.result c.at_rank.ensures.lawful few c.from.ensures (c.from-2.ensures ∙ to_z-of_z w32 c.influence_at.result (search rules) ∙ rw c.hold.ensures.value at c.influence_at.ensures) in
    subst (λ m. unsigned_abs m ≤ 2000000000) (sym read) (amount-bound WideReach t c.at_rank.ensures.lawful item c.args.number few)
