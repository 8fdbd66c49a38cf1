use Rattle.std.proofs.Common.{◌≡◌, ◌≤◌, ◌+◌, ◌++◌, map, reverse, vec_len, vec_capacity}
use Rattle.desk_serve.proofs.bays.part.Given as goal

abbrev pub invariant-loop-bay : goal.invariant-loop-bay
invariant-loop-bay g l = record {
  room : (vec_len l.doors + vec_len l.bays ≤ vec_capacity l.doors) × (vec_len l.desks + vec_len l.bays ≤ vec_capacity l.desks);
  doors : map (λ b. b.door) (reverse l.initial.bays.items) ≡ l.doors.items ++ map (λ b. b.door) (reverse l.bays.items);
  desks : map (λ b. b.desk) (reverse l.initial.bays.items) ≡ l.desks.items ++ map (λ b. b.desk) (reverse l.bays.items);
}

abbrev pub decreases-loop-bay : goal.decreases-loop-bay
decreases-loop-bay g l = vec_len l.bays
