-- each turn of the loop takes the next zone of the cabin
use Rattle.std.proofs.Common.{◌≡◌, ◌+◌, ◌+ℤ◌, FitsSigned, w64, to_z, of_z, length, subst, sym, ap, rules}
use Rattle.std.proofs.lemmas.Int.{to_z-of_z}
use Rattle.std.proofs.lemmas.List.{length-append}
use Rattle.std.proofs.lemmas.Slice.Zip.{zip_turn, zip_end}
use Rattle.payload.proofs.IndexLemmas.{IndexSoFar, IndexSoFar-fits, IndexSoFar-end, IndexSoFar-push}
use Rattle.payload.proofs.loading.cabin_index.Goals as goal

-- the zone's index is added as it is
added : (c : goal.After-index-index) → to_z w64 c.loop-count.index-bits +ℤ to_z w64 (of_z w64 c.index-index.result) ≡ to_z w64 c.loop-count.index-bits +ℤ c.index-index.result
added c = ap (λ z. to_z w64 c.loop-count.index-bits +ℤ z) (to_z-of_z w64 _ (search rules))

turned : (c : goal.After-index-index) → IndexSoFar c.args.averages.now c.args.counts.now c.args.zones.now (length c.loop-count.yielded + 1) (to_z w64 c.loop-count.index-bits +ℤ c.index-index.result)
turned c =
    IndexSoFar-push _ _ _ _ _ c.loop-count.invariant c.in-Some.count.now c.in-Some.zone.now c.index-index.result
    (zip_turn c.args.counts.now c.args.zones.now c.loop-count.yielded c.into_iter-count-iterator.result c.loop-count.count-iterator c.next.new.self c.next.result (cc) (cc) c.loop-count.yielded_by (c.in-Some.count, c.in-Some.zone) c.in-Some.is c.next.ensures.steps)
    c.index-index.ensures.value c.index-index.ensures.bound

fits : (c : goal.After-index-index) → FitsSigned w64 (to_z w64 c.loop-count.index-bits +ℤ c.index-index.result)
fits c = IndexSoFar-fits _ _ _ _ _ (turned c) c.requires

pub overflow_add-index : goal.overflow_add-index
overflow_add-index c = subst (FitsSigned w64) (sym (added c)) (fits c)

pub loop-count-preserved : goal.loop-count-preserved
loop-count-preserved c =
    rw (added c, to_z-of_z w64 _ (fits c), length-append) (turned c)

pub returns : goal.returns
returns c =
    IndexSoFar-end _ _ _ _ _ c.loop-count.invariant
    (zip_end c.args.counts.now c.args.zones.now c.loop-count.yielded c.into_iter-count-iterator.result c.loop-count.count-iterator c.next.new.self c.next.result (cc) (cc) c.loop-count.yielded_by c.in-None.is c.next.ensures.steps)
