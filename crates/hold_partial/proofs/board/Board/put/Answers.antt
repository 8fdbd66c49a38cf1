use Rattle.std.proofs.Common.{◌≡◌, ℕ, ◌+◌, length, ap, ap₂, ◌∙◌, arith, slice_index, lit≤}
use Rattle.std.proofs.Math.Nat.{le_trans}
use Rattle.hold_limits.proofs.LawfulBounds.{lawful-bounds}
use Rattle.hold_partial.specs.Limits.{limits_on, added_at}
use Rattle.hold_partial.proofs.ClosedLemmas.{closed-next}
use Rattle.hold_partial.proofs.KeptLemmas.{putting, no_set, no_level, no_demand, no_entry, level-is, demand-is, entry-is, list-is, limits-within, closed-at, fronts-push, demand-light, demand-class, index-bounded, lateral-bounded, entry-near, rank-known, loads-fit_on}
use Rattle.hold_partial.proofs.LevelSteps.{level-next}
use Rattle.hold_partial.proofs.LoadSteps.{loads-next}
use Rattle.hold_partial.proofs.board.Board.put.Goals as goal

pub bounds-deref-position : goal.bounds-deref-position
bounds-deref-position c =
    let given = putting c.args.self.now c.args.position c.requires.kept c.requires.sound in
    omega (arith, c.requires.kept.prepared.positions.count, ap length c.deref-2.ensures.0, given.known)

pub bounds-self-demand : goal.bounds-self-demand
bounds-self-demand c =
    let given = putting c.args.self.now c.args.position c.requires.kept c.requires.sound in
    demand-class c.args.self.now.task.now c.args.self.now.tables c.requires.kept.lawful c.requires.kept.prepared c.deref.result.now c.len-rank.result no_demand c.deref.ensures.0 (omega (arith, c.len-rank.ensures.value, given.short))

pub overflow_cast-demand : goal.overflow_cast-demand
overflow_cast-demand c =
    let given = putting c.args.self.now c.args.position c.requires.kept c.requires.sound in
    let class = demand-class c.args.self.now.task.now c.args.self.now.tables c.requires.kept.lawful c.requires.kept.prepared c.deref.result.now c.len-rank.result no_demand c.deref.ensures.0 (omega (arith, c.len-rank.ensures.value, given.short)) in
    omega (arith, class)

pub offset_bounds-self-demand : goal.offset_bounds-self-demand
offset_bounds-self-demand c =
    let given = putting c.args.self.now c.args.position c.requires.kept c.requires.sound in
    let class = demand-class c.args.self.now.task.now c.args.self.now.tables c.requires.kept.lawful c.requires.kept.prepared c.deref.result.now c.len-rank.result no_demand c.deref.ensures.0 (omega (arith, c.len-rank.ensures.value, given.short)) in
    omega (arith, class)

pub contains-falls-requires : goal.contains-falls-requires
contains-falls-requires c =
    let given = putting c.args.self.now c.args.position c.requires.kept c.requires.sound in
    rank-known c.args.self.now.task.now c.args.self.now.tables c.requires.kept.lawful c.requires.kept.prepared c.deref-2.result.now c.args.position no_entry c.deref-2.ensures.0 given.known

pub with-requires-clause-number_known : goal.with-requires-clause-number_known
with-requires-clause-number_known c =
    let given = putting c.args.self.now c.args.position c.requires.kept c.requires.sound in
    omega (arith, given.known, (lawful-bounds c.args.self.now.task.now c.requires.kept.lawful).positions)

pub with-requires-clause-index_bounded : goal.with-requires-clause-index_bounded
with-requires-clause-index_bounded c = le_trans (index-bounded c.args.self.now c.requires.kept c.len-rank.result no_level c.len-rank.ensures.value) (lit≤ tt)

pub with-requires-clause-lateral_bounded : goal.with-requires-clause-lateral_bounded
with-requires-clause-lateral_bounded c = le_trans (lateral-bounded c.args.self.now c.requires.kept c.len-rank.result no_level c.len-rank.ensures.value) (lit≤ tt)

pub with-requires-clause-mass_bounded : goal.with-requires-clause-mass_bounded
with-requires-clause-mass_bounded c =
    let given = putting c.args.self.now c.args.position c.requires.kept c.requires.sound in
    demand-light c.args.self.now.task.now c.args.self.now.tables c.requires.kept.lawful c.requires.kept.prepared c.deref.result.now c.len-rank.result no_demand c.deref.ensures.0 (omega (arith, c.len-rank.ensures.value, given.short))

pub with-requires-clause-influence_bounded : goal.with-requires-clause-influence_bounded
with-requires-clause-influence_bounded c =
    let given = putting c.args.self.now c.args.position c.requires.kept c.requires.sound in
    (entry-near c.args.self.now.task.now c.args.self.now.tables c.requires.kept.lawful c.requires.kept.prepared c.deref-2.result.now c.args.position no_entry c.deref-2.ensures.0 given.known).0

pub with-requires-clause-side_bounded : goal.with-requires-clause-side_bounded
with-requires-clause-side_bounded c =
    let given = putting c.args.self.now c.args.position c.requires.kept c.requires.sound in
    (entry-near c.args.self.now.task.now c.args.self.now.tables c.requires.kept.lawful c.requires.kept.prepared c.deref-2.result.now c.args.position no_entry c.deref-2.ensures.0 given.known).1

pub close-requires-clause-class_known : goal.close-requires-clause-class_known
close-requires-clause-class_known c =
    let given = putting c.args.self.now c.args.position c.requires.kept c.requires.sound in
    demand-class c.args.self.now.task.now c.args.self.now.tables c.requires.kept.lawful c.requires.kept.prepared c.deref.result.now c.len-rank.result no_demand c.deref.ensures.0 (omega (arith, c.len-rank.ensures.value, given.short))

pub bounds-deref-position-2 : goal.bounds-deref-position-2
bounds-deref-position-2 c =
    let given = putting c.args.self.now c.args.position c.requires.kept c.requires.sound in
    omega (arith, c.requires.kept.prepared.limits.count, ap length c.deref-3.ensures.0, given.known)

pub add_load-requires-clause-within : goal.add_load-requires-clause-within
add_load-requires-clause-within c =
    let b = c.args.self.now in
    let given = putting b c.args.position c.requires.kept c.requires.sound in
    let listed = list-is c.args.self.now.task.now b.tables c.requires.kept.prepared c.deref-3.result.now c.args.position c.index-deref-position.result c.as_slice-limits.result.now c.deref-3.ensures.0 given.known c.index-deref-position.is c.as_slice-limits.ensures.value in
    limits-within c.args.self.now.task.now c.as_slice-limits.result.now c.args.position (length b.loads) c.requires.kept.lawful listed (omega arith)

pub add_load-requires-clause-fits : goal.add_load-requires-clause-fits
add_load-requires-clause-fits c =
    let b = c.args.self.now in
    let given = putting b c.args.position c.requires.kept c.requires.sound in
    let listed = list-is c.args.self.now.task.now b.tables c.requires.kept.prepared c.deref-3.result.now c.args.position c.index-deref-position.result c.as_slice-limits.result.now c.deref-3.ensures.0 given.known c.index-deref-position.is c.as_slice-limits.ensures.value in
    let demand = demand-is c.args.self.now.task.now b.tables c.requires.kept.prepared c.deref.result.now c.len-rank.result no_demand given.item c.deref.ensures.0 (given.at c.len-rank.result c.len-rank.ensures.value) in
    loads-fit_on b c.requires.kept c.args.position given.item given.light c.as_slice-limits.result.now listed _ demand.mass

pub returns-clause-kept : goal.returns-clause-kept
returns-clause-kept c =
    let b = c.args.self.now in
    let kept = c.requires.kept in
    let given = putting b c.args.position kept c.requires.sound in
    let rank = c.len-rank.result in
    let demand = demand-is c.args.self.now.task.now b.tables kept.prepared c.deref.result.now rank no_demand given.item c.deref.ensures.0 (given.at rank c.len-rank.ensures.value) in
    let listed = list-is c.args.self.now.task.now b.tables kept.prepared c.deref-3.result.now c.args.position c.index-deref-position.result c.as_slice-limits.result.now c.deref-3.ensures.0 given.known c.index-deref-position.is c.as_slice-limits.ensures.value in
    let place = entry-is c.args.self.now.task.now b.tables kept.prepared c.deref-2.result.now c.args.position no_entry c.deref-2.ensures.0 given.known in
    let level = level-is b kept rank no_level c.len-rank.ensures.value in
    let falling = c.contains-falls.ensures
    ∙ closed-at b kept c.deref.result.now rank no_demand no_set given.item c.deref-2.result.now c.args.position no_entry c.deref.ensures.0 (given.at rank c.len-rank.ensures.value) c.deref-2.ensures.0 given.known in
    let here = level-next c.args.self.now.task.now b.tables.ranks.items b.prefix.items given.item c.args.position _ _ _ c.with.result c.contains-falls.result given.next level demand place
    c.with.ensures.used c.with.ensures.blocked_ranks c.with.ensures.index c.with.ensures.lateral falling c.with.ensures.rising in
    let few = (lawful-bounds c.args.self.now.task.now kept.lawful).items in
    let added : (k : ℕ) → slice_index c.add_load.new.loads k ≡ slice_index b.loads k + added_at given.item.mass.0 (limits_on c.args.self.now.task.now.hold c.args.position) k = λ k.
    c.add_load.ensures k ∙ ap₂ (λ mass limits. slice_index b.loads k + added_at mass limits k) demand.mass listed in
    rw c.push.ensures.items record {
      lawful = kept.lawful;
      sound = c.requires.sound;
      prepared = kept.prepared;
      fronts = fronts-push c.args.self.now.task.now b.tables.ranks.items b.prefix.items c.args.position rank b.levels c.with.result kept.fronts here c.len-rank.ensures.value (omega (arith, c.len-rank.ensures.value, given.short));
      loaded = loads-next c.args.self.now.task.now b.prefix.items given.item c.args.position b.loads c.add_load.new.loads given.short given.next kept.loaded added;
      closed = closed-next c.args.self.now.task.now b.tables.ranks.items b.prefix.items given.item c.args.position rank _ b.closed c.close.new.self _ given.next kept.closed place.closed_ranks c.len-rank.ensures.value demand.twins
          (omega (arith, c.len-rank.ensures.value, given.short)) c.close.ensures.class c.close.ensures.others c.close.ensures.before;
    }
