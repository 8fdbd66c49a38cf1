use Rattle.std.proofs.Common.{sym, ap, subst, ◌∙◌, length}
use Rattle.desk_lock.specs.Rooms.{AreSameDesks}
use Rattle.desk_lock.proofs.Keeping.{all_written}
use Rattle.door_tests.proofs.full_room.told.Goals as goal

pub close-requires : goal.close-requires
close-requires g c =
    let was = c.as_mut_slice.ensures.value in
    let same = subst (λ desks. AreSameDesks desks c.call_in_turn.new.desks) was c.call_in_turn.ensures in
    all_written _ _ _ c.in-Ok.desks.items _ _ _ c.in-Ok.ensures.stay same (sym (ap length was) ∙ c.as_mut_slice.ensures.len)
