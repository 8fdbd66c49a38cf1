use Rattle.std.proofs.Common.{◌≡◌, ℕ, ◌≤◌, length, Some, ap, sym, ◌∙◌, subst, arith, rules}
use Rattle.std.specs.Prelude.{slice_get}
use Rattle.hold_parts.specs.declared.parts.Item.{Item}
use Rattle.hold_limits.specs.BranchOrder.{ordered}
use Rattle.std.proofs.lemmas.Option.{slice_get_within}
use Rattle.hold_limits.proofs.BranchOrderLemmas.{length-ordered}
use Rattle.hold_limits.proofs.LawfulBounds.{lawful-bounds}
use Rattle.hold_partial.specs.declared.demand.Demand.{Demand}
use Rattle.hold_partial.specs.Tables.{IsDemand}
use Rattle.hold_partial.proofs.TableLemmas.{each-push}
use Rattle.hold_partial.proofs.demand.demands_of.Goals as goal

pub push-requires : goal.push-requires
push-requires c =
    let few = (lawful-bounds c.args.task.now c.at_rank.ensures.lawful).items in
    (search rules, omega (arith, ap length c.items-rank-end.ensures.value))

pub loop-rank-preserved : goal.loop-rank-preserved
loop-rank-preserved c =
    let t = c.args.task.now in
    let ranks = c.args.ranks.now in
    let P : ℕ → Demand → Type 0 = λ k demand. (item : Item) → slice_get (ordered t.items) k ≡ Some item → IsDemand t ranks item demand in
    let here : P c.loop-rank.rank c.demand_of.result = λ item there. subst (λ (i : Item). IsDemand t ranks i c.demand_of.result) (cc (sym c.at_rank.ensures.value ∙ there)) c.demand_of.ensures in
    record {
      count = omega (arith, c.push.ensures.len, c.loop-rank.invariant.count);
      each = rw c.push.ensures.items (each-push P _ c.loop-rank.rank c.demand_of.result c.loop-rank.invariant.count c.loop-rank.invariant.each here);
    }

pub returns : goal.returns
returns c =
    let t = c.args.task.now in
    let past : length t.items ≤ c.loop-rank.rank = omega (arith, ap length c.items-rank-end.ensures.value) in
    record {
      count = omega (arith, c.loop-rank.invariant.count, ap length c.items-rank-end.ensures.value);
      each = λ k d item there. c.loop-rank.invariant.each k d (omega (arith, slice_get_within (ordered t.items) k item there, length-ordered t.items)) item there;
    }
