use Rattle.std.proofs.Common.{◌≡◌, ◌+◌, ◌-◌, ◌<◌, ◌≤◌, length, sym, subst, ◌∙◌, arith, Some}
use Rattle.std.proofs.lemmas.Int.{ints}
use Rattle.std.specs.Prelude.{slice_get}
use Rattle.hold_limits.specs.BranchOrder.{ordered}
use Rattle.hold_limits.proofs.LawfulBounds.{lawful-bounds}
use Rattle.hold_reach.proofs.LoadLemmas.{mass-at}
use Rattle.hold_reach.proofs.ReachLemmas.{next-item}
use Rattle.hold_reach.specs.declared.extent.Extent.TheVariants.{Reach}
use Rattle.hold_partial.proofs.AheadLemmas.{IsLooked, looked-start, looked-next, looked-twin, looked-all, extremes-bounded, twins-apart}
use Rattle.hold_partial.proofs.ClosedLemmas.{twins-of_class}
use Rattle.hold_partial.proofs.KeptLemmas.{no_demand, demand-is, stand-known}
use Rattle.hold_partial.proofs.board.Board.ahead.Goals as goal
use Rattle.hold_partial.proofs.board.Board.ahead.Goals.{then-deref-item, else-deref-item+in_ok-extremes_of}

pub loop-item-init : goal.loop-item-init
loop-item-init c = λ item there.
    let b = c.args.self.now in
    let start = c.of_index-ahead.ensures in
    let ahead = c.of_index-ahead.result in
    let rank = c.len-next.result + 1 in
    let none : 0 ≡ rank - (length b.prefix.items + 1) = omega (arith, c.len-next.ensures.value) in
    let looked = looked-start b.task.now b.prefix.items item rank ahead.ends ahead.reach c.requires.kept.lawful c.requires.short (omega (arith, c.len-next.ensures.value)) start.ends
    (omega (arith, ints, start.low, c.start_of.ensures.value, c.start_of.ensures.bounded)) (omega (arith, ints, start.high, c.start_of.ensures.value, c.start_of.ensures.bounded)) in
    subst (λ twins. IsLooked b.task.now b.prefix.items item rank (rank - (length b.prefix.items + 1)) ahead.ends twins ahead.reach) (sym start.twins)
    (subst (λ done. IsLooked b.task.now b.prefix.items item rank done ahead.ends 0 ahead.reach) none looked)

pub with_twin-ahead-requires : goal.with_twin-ahead-requires
with_twin-ahead-requires c =
    let b = c.args.self.now in
    let next = next-item b.task.now (length b.prefix.items) c.requires.short in
    let looked = c.loop-item.invariant next.0 next.1 in
    omega (arith, looked.few, c.loop-item-test.true, c.len-item-end.ensures.value, c.requires.kept.prepared.demands.count, (lawful-bounds b.task.now c.requires.kept.lawful).items)

pub with-ahead-requires-clause-first_known : goal.with-ahead-requires-clause-first_known
with-ahead-requires-clause-first_known c =
    let b = c.args.self.now in
    let within : c.loop-item.item < length b.task.now.items = omega (arith, c.loop-item-test.true, c.len-item-end.ensures.value, c.requires.kept.prepared.demands.count) in
    let other = next-item b.task.now c.loop-item.item within in
    let e = c.in_ok-extremes_of.field-0 in
    omega (arith, stand-known Reach b.task.now b.prefix.items other.0 e.first (c.in_ok-extremes_of.ensures other.0 other.1).first, (lawful-bounds b.task.now c.requires.kept.lawful).positions)

pub with-ahead-requires-clause-last_known : goal.with-ahead-requires-clause-last_known
with-ahead-requires-clause-last_known c =
    let b = c.args.self.now in
    let within : c.loop-item.item < length b.task.now.items = omega (arith, c.loop-item-test.true, c.len-item-end.ensures.value, c.requires.kept.prepared.demands.count) in
    let other = next-item b.task.now c.loop-item.item within in
    let e = c.in_ok-extremes_of.field-0 in
    omega (arith, stand-known Reach b.task.now b.prefix.items other.0 e.last (c.in_ok-extremes_of.ensures other.0 other.1).last, (lawful-bounds b.task.now c.requires.kept.lawful).positions)

pub with-ahead-requires-clause-bounded : goal.with-ahead-requires-clause-bounded
with-ahead-requires-clause-bounded c =
    let b = c.args.self.now in
    let next = next-item b.task.now (length b.prefix.items) c.requires.short in
    let looked = c.loop-item.invariant next.0 next.1 in
    let few : c.loop-item.item ≤ 60 = omega (arith, c.loop-item-test.true, c.len-item-end.ensures.value, c.requires.kept.prepared.demands.count, (lawful-bounds b.task.now c.requires.kept.lawful).items) in
    (omega (arith, few, looked.bounded.0), omega (arith, few, looked.bounded.1))

pub with-ahead-requires-clause-extremes_bounded : goal.with-ahead-requires-clause-extremes_bounded
with-ahead-requires-clause-extremes_bounded c =
    let b = c.args.self.now in
    let within : c.loop-item.item < length b.task.now.items = omega (arith, c.loop-item-test.true, c.len-item-end.ensures.value, c.requires.kept.prepared.demands.count) in
    let other = next-item b.task.now c.loop-item.item within in
    let light = mass-at b.task.now c.requires.kept.lawful c.loop-item.item other.0 within other.1 in
    let small = extremes-bounded b.task.now b.prefix.items other.0 c.in_ok-extremes_of.field-0 c.requires.kept.lawful light (c.in_ok-extremes_of.ensures other.0 other.1) in
    (omega (arith, small.0), omega (arith, small.1))

pub loop-item-preserved : goal.loop-item-preserved
loop-item-preserved c = λ first there.
    let b = c.args.self.now in
    let t = b.task.now in
    let prefix = b.prefix.items in
    let item = c.loop-item.item in
    let done = item - (length prefix + 1) in
    let within : item < length t.items = omega (arith, c.loop-item-test.true, c.len-item-end.ensures.value, c.requires.kept.prepared.demands.count) in
    let other = next-item t item within in
    let light = mass-at t c.requires.kept.lawful item other.0 within other.1 in
    let at_next = subst (λ r. slice_get (ordered t.items) r ≡ Some first) (sym c.len-next.ensures.value) there in
    let demand = demand-is t b.tables c.requires.kept.prepared c.deref.result.now c.len-next.result no_demand first c.deref.ensures.0 at_next in
    let of_other = demand-is t b.tables c.requires.kept.prepared c.deref-in-loop-item.result.now item no_demand other.0 c.deref-in-loop-item.ensures.0 other.1 in
    let more : done + 1 ≡ (item + 1) - (length prefix + 1) = omega (arith, c.len-next.ensures.value, c.loop-item.auto.item) in
    let looked = c.loop-item.invariant first there in
    elim c.if-deref-item.branch [
      | then-deref-item w ↦
          let twins = twins-of_class t (length prefix) first other.0 there (sym demand.twins ∙ sym w.if-deref-item.true ∙ of_other.twins) in
          let twin = looked-twin t prefix first other.0 item done c.loop-item.ahead.ends c.loop-item.ahead.twins c.loop-item.ahead.reach c.requires.kept.lawful within other.1 twins light looked in
          rw (w.ahead-is, w.with_twin-ahead.ensures.ends, w.with_twin-ahead.ensures.twins, w.with_twin-ahead.ensures.reach)
          (subst (λ d. IsLooked t prefix first (item + 1) d c.loop-item.ahead.ends (c.loop-item.ahead.twins + 1) c.loop-item.ahead.reach) more twin)
      | else-deref-item+in_ok-extremes_of w ↦
          let apart = twins-apart t first other.0 _ _ demand.twins of_other.twins w.if-deref-item.false in
          let e = w.in_ok-extremes_of.field-0 in
          let extremes = w.in_ok-extremes_of.ensures other.0 other.1 in
          let small = extremes-bounded t prefix other.0 e c.requires.kept.lawful light extremes in
          let next = looked-next t prefix first other.0 item done c.loop-item.ahead.ends w.with-ahead.result.ends c.loop-item.ahead.twins c.loop-item.ahead.reach w.with-ahead.result.reach e
          c.requires.kept.lawful there within other.1 apart light extremes small w.with-ahead.ensures.ends w.with-ahead.ensures.low w.with-ahead.ensures.high looked in
          rw (w.ahead-is, w.with-ahead.ensures.twins)
          (subst (λ d. IsLooked t prefix first (item + 1) d w.with-ahead.result.ends c.loop-item.ahead.twins w.with-ahead.result.reach) more next)
    ]

pub returns : goal.returns
returns c = λ item there.
    let b = c.args.self.now in
    let past : length b.task.now.items ≤ c.loop-item.item = omega (arith, c.loop-item-test.false, c.len-item-end.ensures.value, c.requires.kept.prepared.demands.count) in
    let few : c.loop-item.item - (length b.prefix.items + 1) ≤ 60 = omega (arith, c.loop-item.auto.item-end, c.len-item-end.ensures.value, c.requires.kept.prepared.demands.count, (lawful-bounds b.task.now c.requires.kept.lawful).items) in
    looked-all b.task.now b.prefix.items item c.loop-item.item _ c.loop-item.ahead past few (c.loop-item.invariant item there)
