use Rattle.stop_partial.proofs.sector.moves_to_viable.Goals as goal

pub returns-then-can_meet_window-clause-viable : goal.returns-then-can_meet_window-clause-viable
returns-then-can_meet_window-clause-viable c =
    let task = c.move_to.ensures.task in
    let at = c.move_to.ensures.moved c.if-not-move_to.false in
    let sound = rw (task, at) at c.prefix-sound.ensures.sound in
    let window = rw (task, at) at c.can_meet_window.ensures in
    let lateral = rw (task, at) at c.can_meet_lateral_limit.ensures in
    (λ met. record { sound = sound; window = window.0 c.if-can_meet_window.true; lateral = lateral.0 met }, λ viable. lateral.1 viable.lateral)
