use Rattle.std.proofs.Common.{◌≡◌, length, vec_len}
use Rattle.loadctl.specs.Execute.{StandFrom}
use Rattle.loadctl.proofs.execute.doors_from.Given as goal

abbrev pub invariant-loop-place : goal.invariant-loop-place
invariant-loop-place g l = record { made : vec_len l.doors ≡ l.place; many : length l.doors.items ≡ l.place; ports : StandFrom g.M.Objects.stands_at l.fn.port l.doors.items }
