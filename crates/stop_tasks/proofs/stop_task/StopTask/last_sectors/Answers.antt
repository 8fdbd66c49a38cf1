use Rattle.std.proofs.Common.{◌≡◌, ◌∙◌, ℕ, map, get_or, ap, length, arith}
use Rattle.std.proofs.lemmas.Simd.{map-map}
use Rattle.hold_limits.specs.BranchOrder.{Offered, branch_order, order_of}
use Rattle.hold_limits.proofs.BranchOrderLemmas.{length-order_of}
use Rattle.hold_limits.proofs.LawfulBounds.{lawful-bounds}
use Rattle.stop_tasks.proofs.AdmissibleLemmas.{one-first}
use Rattle.stop_tasks.proofs.stop_task.StopTask.last_sectors.Goals as goal

pub last_of-requires : goal.last_of-requires
last_of-requires c =
    let first = c.first.result.now in
    omega (arith, ap length c.order.ensures.value, length-order_of first.items, (lawful-bounds first c.order.ensures.lawful).items)

pub returns : goal.returns
returns c first is_first =
    let read = c.first.result.now in
    let same = one-first c.args.self.now read first c.first.ensures.value is_first in
    let f : ℕ → ℕ = λ place. get_or c.args.self.now.leaves place 0 in
    let found : c.last_of.result.items ≡ map f (order_of read.items) = rw (c.leaves.ensures.value, c.order.ensures.value) at c.last_of.ensures in
    rw (← same) (found ∙ map-map f (λ (a : Offered). a.0) (branch_order read.items))
