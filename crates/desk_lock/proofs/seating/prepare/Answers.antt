use Rattle.desk_lock.proofs.Rooms.{starts}
use Rattle.desk_lock.proofs.seating.prepare.Goals as goal

pub vacant-requires : goal.vacant-requires
vacant-requires g c = starts _ _ _ _ _ _ c.requires.small
