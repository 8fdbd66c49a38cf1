use Rattle.std.proofs.Common.{[], ◌∷◌, length, length-append, ap, arith}
use Rattle.hold_limits.specs.Problem.{Problem}
use Rattle.hold_limits.proofs.SoundLemmas.{IsSound-front}
use Rattle.stop_partial.proofs.NextLemmas.{nowhere}
use Rattle.stop_partial.proofs.sector.next_after.Goals as goal
use Rattle.stop_partial.proofs.sector.next_after.Goals.{then-prefix-items-via-then-prefix-items, then-prefix-items-via-else-prefix-items+then-not-move_to}

pub returns-then-prefix-items-clause-next : goal.returns-then-prefix-items-clause-next
returns-then-prefix-items-clause-next c =
    let t = c.args.partial.now.task in
    let prefix = c.args.prefix.now in
    nowhere t prefix c.none.result c.none.ensures.none c.none.ensures.bounded (λ q sound. elim c.then-prefix-items.branch [
      | then-prefix-items-via-then-prefix-items w ↦ omega (arith, w.if-prefix-items.true, ap length (c.items.ensures.value), ap (λ (task : Problem). length task.items) c.task.ensures.value, sound.short, length-append prefix (q ∷ []))
      | then-prefix-items-via-else-prefix-items+then-not-move_to w ↦ w.move_to.ensures.unsound w.if-not-move_to.true (IsSound-front t prefix (q ∷ []) sound)
    ])
