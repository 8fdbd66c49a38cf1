use Rattle.std.proofs.Common.{length}
use Rattle.last_minute.proofs.CountLemmas.{IndexSoFar}
use Rattle.last_minute.proofs.unplaced.index_of_counts.Given as goal

abbrev pub invariant-loop-count : goal.invariant-loop-count
invariant-loop-count l = IndexSoFar l.averages l.counts l.zones (length l.yielded) l.index
