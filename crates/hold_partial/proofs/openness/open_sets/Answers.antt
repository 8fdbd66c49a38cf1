use Rattle.std.proofs.Common.{rules, ◌-◌, ◌<◌, ◌≤◌, take, length, arith}
use Rattle.std.proofs.lemmas.List.{length-take}
use Rattle.std.proofs.lemmas.Slice.Zip.{AllZip-long}
use Rattle.hold_parts.specs.declared.parts.Item.{Item}
use Rattle.hold_limits.proofs.LawfulBounds.{lawful-bounds}
use Rattle.hold_reach.specs.Reach.{is_open, remaining}
use Rattle.hold_partial.specs.Levels.{is_blocked}
use Rattle.hold_partial.proofs.KeptLemmas.{no_level, level-is}
use Rattle.hold_partial.proofs.OpennessLemmas.{next-left, all-left}
use Rattle.hold_partial.proofs.openness.open_sets.Goals as goal
use Rattle.position_set.specs.declared.set.PositionSet.{PositionSet}
use Rattle.position_set.specs.Sets.{Stands}

pub open_set-requires-clause-blocked : goal.open_set-requires-clause-blocked
open_set-requires-clause-blocked c =
    let b = c.args.board.now in
    c.numbers_of-blocked.ensures (is_blocked b.task.now.hold b.prefix.items) (level-is b c.requires c.len-placed.result no_level c.len-placed.ensures.value).blocked_ranks

pub push-requires : goal.push-requires
push-requires c =
    let b = c.args.board.now in
    let left = remaining b.task.now b.prefix.items in
    let done = c.loop-rank.rank - length b.prefix.items in
    let long = AllZip-long (λ (item : Item) (set : PositionSet). Stands set (is_open b.task.now b.prefix.items item)) (take done left) c.loop-rank.sets.items c.loop-rank.invariant in
    let few : length c.loop-rank.sets.items < 60 =
    omega (arith, long, length-take done left, c.loop-rank-test.true, c.len-rank-end.ensures.value, c.requires.prepared.demands.count, (lawful-bounds b.task.now c.requires.lawful).items) in
    (search rules, few)

pub loop-rank-preserved : goal.loop-rank-preserved
loop-rank-preserved c =
    let b = c.args.board.now in
    let from : length b.prefix.items ≤ c.loop-rank.rank = omega (arith, c.loop-rank.auto.rank, c.len-placed.ensures.value) in
    let within : c.loop-rank.rank < length b.task.now.items = omega (arith, c.loop-rank-test.true, c.len-rank-end.ensures.value, c.requires.prepared.demands.count) in
    rw c.push.ensures.items (next-left (λ (item : Item) (set : PositionSet). Stands set (is_open b.task.now b.prefix.items item)) b.task.now b.prefix.items c.loop-rank.rank c.loop-rank.sets.items c.open_set.result from within c.loop-rank.invariant c.open_set.ensures)

pub returns-clause-sets : goal.returns-clause-sets
returns-clause-sets c =
    let b = c.args.board.now in
    let past : length b.task.now.items ≤ c.loop-rank.rank = omega (arith, c.loop-rank-test.false, c.len-rank-end.ensures.value, c.requires.prepared.demands.count) in
    all-left (λ (item : Item) (set : PositionSet). Stands set (is_open b.task.now b.prefix.items item)) b.task.now b.prefix.items c.loop-rank.rank c.loop-rank.sets.items past c.loop-rank.invariant

pub returns-clause-count : goal.returns-clause-count
returns-clause-count c =
    let b = c.args.board.now in
    omega (arith, AllZip-long (λ (item : Item) (set : PositionSet). Stands set (is_open b.task.now b.prefix.items item)) (remaining b.task.now b.prefix.items) c.loop-rank.sets.items (returns-clause-sets c))
