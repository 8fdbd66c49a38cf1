use Rattle.std.proofs.Common.{◌≡◌, ◌≤◌, length, map, List, ℕ, ap, ◌∙◌, arith, rules}
use Rattle.std.specs.List.{filter, range_with_len}
use Rattle.std.proofs.lemmas.List.{take_all}
use Rattle.hold_parts.specs.declared.parts.Item.{Item}
use Rattle.hold_limits.specs.BranchOrder.{ordered}
use Rattle.hold_limits.specs.Enumeration.{is_accepted}
use Rattle.hold_limits.specs.Layout.{Layout}
use Rattle.hold_limits.proofs.BranchOrderLemmas.{length-ordered}
use Rattle.hold_limits.proofs.LawfulBounds.{lawful-bounds}
use Rattle.position_set.specs.Sets.{members}
use Rattle.hold_choices.proofs.ListLemmas.{map-more, map-push}
use Rattle.hold_choices.proofs.choices.Choices.full.Goals as goal

abbrev accepting : Layout → Item → List ℕ
accepting hold item = filter (λ q. is_accepted hold (item, q)) (range_with_len 0 (length hold.positions))

pub push-requires : goal.push-requires
push-requires c =
    let few = (lawful-bounds c.args.task.now c.at_rank.ensures.lawful).items in
    (search rules, omega (arith, ap length c.items-rank-end.ensures.value))

pub loop-rank-preserved : goal.loop-rank-preserved
loop-rank-preserved c =
    let t = c.args.task.now in
    let here : members c.accepting.result ≡ accepting t.hold c.at_rank.result.now = c.accepting.ensures ∙ ap (λ (h : Layout). accepting h c.at_rank.result.now) c.hold.ensures.value in
    record {
      count = omega (arith, c.push.ensures.len, c.loop-rank.invariant.count);
      items = ap (map members) c.push.ensures.items ∙ map-push members c.loop-rank.sets.items c.accepting.result
          ∙ map-more (accepting t.hold) (ordered t.items) c.loop-rank.rank c.at_rank.result.now _ (members c.accepting.result) c.at_rank.ensures.value c.loop-rank.invariant.items here;
    }

pub returns : goal.returns
returns c =
    let t = c.args.task.now in
    let end : length (ordered t.items) ≤ c.loop-rank.rank = omega (arith, ap length c.items-rank-end.ensures.value, length-ordered t.items) in
    c.loop-rank.invariant.items ∙ ap (map (accepting t.hold)) (take_all c.loop-rank.rank (ordered t.items) end)
