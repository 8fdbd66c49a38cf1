use Rattle.std.proofs.Common.{length}
use Rattle.payload.proofs.IndexLemmas.{IndexSoFar}
use Rattle.payload.proofs.loading.cabin_index.Given as goal

abbrev pub invariant-loop-count : goal.invariant-loop-count
invariant-loop-count l = IndexSoFar l.averages l.counts l.zones (length l.yielded) l.index
