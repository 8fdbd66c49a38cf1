use Rattle.std.proofs.Common.{◌≡◌, ◌≤◌, ◌+◌, ◌++◌, map, reverse, vec_len, vec_capacity}
use Rattle.desk_serve.proofs.bays.pair.Given as goal

abbrev pub invariant-loop-door : goal.invariant-loop-door
invariant-loop-door g l = record {
  same : vec_len l.doors ≡ vec_len l.desks;
  tools : vec_len l.doors ≡ vec_len l.tools;
  room : vec_len l.doors + vec_len l.bays ≤ vec_capacity l.bays;
  doors : l.initial.doors.items ≡ l.doors.items ++ map (λ b. b.door) (reverse l.bays.items);
  desks : l.initial.desks.items ≡ l.desks.items ++ map (λ b. b.desk) (reverse l.bays.items);
  kept : (vec_len l.initial.doors ≤ vec_capacity l.doors) × (vec_len l.initial.desks ≤ vec_capacity l.desks);
}

abbrev pub decreases-loop-door : goal.decreases-loop-door
decreases-loop-door g l = vec_len l.doors
