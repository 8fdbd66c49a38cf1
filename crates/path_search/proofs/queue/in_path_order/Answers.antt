use Rattle.std.proofs.Common.{ℕ, nat_cmp}
use Rattle.std.proofs.lemmas.List.Sorted.{IsPermutation-map}
use Rattle.std.specs.Cmp.Lexicographic.{slice_cmp}
use Rattle.arrayvec.specs.ArrayVec.{ArrayVec}
use Rattle.path_search.proofs.QueueLemmas.{IsSorted-map}
use Rattle.path_search.proofs.queue.in_path_order.Goals as goal

pub returns-clause-permuted : goal.returns-clause-permuted
returns-clause-permuted c = IsPermutation-map (λ (path : ArrayVec ℕ). path.items) _ _ c.sort_unstable.ensures.permutation

pub returns-clause-sorted : goal.returns-clause-sorted
returns-clause-sorted c = IsSorted-map (λ (path : ArrayVec ℕ). path.items) (slice_cmp nat_cmp) _ c.sort_unstable.ensures.sorted
