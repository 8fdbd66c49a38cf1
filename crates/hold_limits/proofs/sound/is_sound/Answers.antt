use Rattle.std.proofs.Common.{ap, length, arith}
use Rattle.hold_limits.proofs.StowageLemmas.{sound-stands}
use Rattle.hold_limits.proofs.sound.is_sound.Goals as goal

pub returns : goal.returns
returns c =
    let t = c.args.task.now in
    let prefix = c.args.prefix.now in
    let same = sound-stands t prefix (omega (arith, ap length c.items-items.ensures.value)) in
    let stands = rw (c.hold.ensures.value, c.items-items.ensures.value, c.stowage_in-stowage.ensures.stowed) at c.stands_soundly.ensures in
    (λ yes. same.0 (stands.0 yes), λ sound. stands.1 (same.1 sound))
