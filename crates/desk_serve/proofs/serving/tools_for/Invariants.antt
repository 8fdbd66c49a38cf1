use Rattle.std.proofs.Common.{◌≡◌, ◌≤◌, vec_len, vec_capacity}
use Rattle.desk_serve.proofs.serving.tools_for.Given as goal

abbrev pub invariant-loop : goal.invariant-loop
invariant-loop l = record { made : vec_len l.tools ≡ l.counter; room : l.count ≤ vec_capacity l.tools }
