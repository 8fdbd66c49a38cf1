use Rattle.std.proofs.Common.{◌≡◌, ℕ, ◌+◌, ◌≤◌, List, ◌∷◌, [], length, get_or, take, ap, ap₂, sym, subst, ◌∙◌, arith, slice_index}
use Rattle.std.specs.Prelude.{All}
use Rattle.hold_limits.proofs.SoundLemmas.{IsSound-front}
use Rattle.hold_partial.specs.declared.level.Level.{Level}
use Rattle.hold_partial.specs.Kept.{AreClosed}
use Rattle.hold_partial.specs.Levels.{IsLevel}
use Rattle.hold_partial.specs.Limits.{limits_on, added_at}
use Rattle.hold_partial.proofs.ClosedLemmas.{closed-back}
use Rattle.hold_partial.proofs.KeptLemmas.{taking, no_demand, demand-is, demand-class, list-is, limits-within, fronts-pop}
use Rattle.hold_partial.proofs.LoadSteps.{loads-there, loads-back}
use Rattle.hold_partial.proofs.board.Board.take_off.Goals as goal

pub reopen-requires-clause-class_known : goal.reopen-requires-clause-class_known
reopen-requires-clause-class_known c =
    let b = c.args.self.now in
    let given = taking b c.pop.new.self.items c.in-Some.position c.requires.kept c.in-Some.ensures.items in
    demand-class b.task.now b.tables c.requires.kept.lawful c.requires.kept.prepared c.deref.result.now c.len-rank.result no_demand c.deref.ensures.0 (omega (arith, c.len-rank.ensures.value, given.short))

pub bounds-deref-position : goal.bounds-deref-position
bounds-deref-position c =
    let given = taking c.args.self.now c.pop.new.self.items c.in-Some.position c.requires.kept c.in-Some.ensures.items in
    omega (arith, c.requires.kept.prepared.limits.count, ap length c.deref-in-Some.ensures.0, given.known)

pub take_load-requires-clause-within : goal.take_load-requires-clause-within
take_load-requires-clause-within c =
    let b = c.args.self.now in
    let given = taking b c.pop.new.self.items c.in-Some.position c.requires.kept c.in-Some.ensures.items in
    let listed = list-is b.task.now b.tables c.requires.kept.prepared c.deref-in-Some.result.now c.in-Some.position c.index-deref-position.result c.as_slice-limits.result.now c.deref-in-Some.ensures.0 given.known c.index-deref-position.is c.as_slice-limits.ensures.value in
    limits-within b.task.now c.as_slice-limits.result.now c.in-Some.position (length b.loads) c.requires.kept.lawful listed (omega arith)

pub take_load-requires-clause-there : goal.take_load-requires-clause-there
take_load-requires-clause-there c =
    let b = c.args.self.now in
    let front = c.pop.new.self.items in
    let given = taking b front c.in-Some.position c.requires.kept c.in-Some.ensures.items in
    let demand = demand-is b.task.now b.tables c.requires.kept.prepared c.deref.result.now c.len-rank.result no_demand given.item c.deref.ensures.0 (given.at c.len-rank.result c.len-rank.ensures.value) in
    let listed = list-is b.task.now b.tables c.requires.kept.prepared c.deref-in-Some.result.now c.in-Some.position c.index-deref-position.result c.as_slice-limits.result.now c.deref-in-Some.ensures.0 given.known c.index-deref-position.is c.as_slice-limits.ensures.value in
    let P : ℕ → List ℕ → Type 0 = λ mass limits. All (λ k. added_at mass limits k ≤ slice_index b.loads k) limits in
    let there = subst (P given.item.mass.0) (sym listed) (loads-there b.task.now front b.loads given.item c.in-Some.position given.short given.next given.loaded) in
    subst (λ mass. P mass c.as_slice-limits.result.now) (sym demand.mass) there

pub returns-in-Some-clause-kept : goal.returns-in-Some-clause-kept
returns-in-Some-clause-kept c =
    let b = c.args.self.now in
    let t = b.task.now in
    let front = c.pop.new.self.items in
    let q = c.in-Some.position in
    let kept = c.requires.kept in
    let given = taking b front q kept c.in-Some.ensures.items in
    let rank = c.len-rank.result in
    let demand = demand-is t b.tables kept.prepared c.deref.result.now rank no_demand given.item c.deref.ensures.0 (given.at rank c.len-rank.ensures.value) in
    let listed = list-is t b.tables kept.prepared c.deref-in-Some.result.now q c.index-deref-position.result c.as_slice-limits.result.now c.deref-in-Some.ensures.0 given.known c.index-deref-position.is c.as_slice-limits.ensures.value in
    let taken : (k : ℕ) → slice_index c.take_load.new.loads k + added_at given.item.mass.0 (limits_on t.hold q) k ≡ slice_index b.loads k = λ k.
    ap₂ (λ mass limits. slice_index c.take_load.new.loads k + added_at mass limits k) (sym demand.mass) (sym listed) ∙ c.take_load.ensures k in
    let class = demand-class t b.tables kept.lawful kept.prepared c.deref.result.now rank no_demand c.deref.ensures.0 (omega (arith, c.len-rank.ensures.value, given.short)) in
    let Fronts : List ℕ → Type 0 = λ path. (k : ℕ) (d : Level) → k ≤ length path → IsLevel t b.tables.ranks.items (take k path) (get_or b.levels k d) in
    record {
      lawful = kept.lawful;
      sound = IsSound-front t front (q ∷ []) given.sound;
      prepared = kept.prepared;
      fronts = fronts-pop t b.tables.ranks.items front (q ∷ []) b.levels (subst Fronts c.in-Some.ensures.items kept.fronts);
      loaded = loads-back t front given.item q b.loads c.take_load.new.loads given.short given.next given.loaded taken;
      closed = closed-back t b.tables.ranks.items front given.item q rank _ b.closed c.reopen.new.self given.next (subst (λ (path : List ℕ). AreClosed t b.tables.ranks.items path b.closed) c.in-Some.ensures.items kept.closed)
          c.len-rank.ensures.value demand.twins (omega (arith, class)) c.reopen.ensures.to c.reopen.ensures.before;
    }
