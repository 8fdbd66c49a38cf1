use Rattle.std.proofs.Common.{◌≡◌, ◌++◌, length, map, nat_lt}
use Rattle.std.specs.List.{filter}
use Rattle.certificate.specs.Evidence.{paths_of}
use Rattle.path_search.specs.Keys.{key_of_entry, prefixes}
use Rattle.path_search.proofs.queue.with_incomplete.Given as goal

abbrev pub invariant-loop-waiting : goal.invariant-loop-waiting
invariant-loop-waiting l = paths_of l.paths.items ≡ paths_of l.fn.paths.items ++ filter (λ p. nat_lt (length p) l.complete) (prefixes (map key_of_entry l.yielded))
