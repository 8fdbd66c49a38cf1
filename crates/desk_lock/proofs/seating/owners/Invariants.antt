use Rattle.std.proofs.Common.{◌≡◌, ◌≤◌, vec_len, vec_capacity}
use Rattle.std.specs.List.{All}
use Rattle.std.specs.Arc.{arc_value}
use Rattle.desk_lock.proofs.seating.owners.Given as goal

abbrev pub invariant-loop : goal.invariant-loop
invariant-loop g l = record {
  count : vec_len l.owners ≡ l.counter;
  room : l.count ≤ vec_capacity l.owners;
  board : All (λ owner. arc_value owner ≡ arc_value l.board) l.owners.items;
}
