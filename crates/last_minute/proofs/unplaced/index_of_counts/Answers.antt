use Rattle.std.proofs.Common.{◌≡◌, ◌+◌, ◌*◌, ◌≤◌, ◌+ℤ◌, FitsSigned, w64, to_z, of_z, unsigned_abs, length, ap, arith, rules}
use Rattle.std.proofs.lemmas.Int.{to_z-of_z, fits_signed_from_abs}
use Rattle.std.proofs.lemmas.List.{length-append}
use Rattle.std.proofs.lemmas.Slice.Zip.{zip_turn, zip_end}
use Rattle.last_minute.proofs.CountLemmas.{IndexSoFar, index-next, index-whole}
use Rattle.last_minute.proofs.unplaced.index_of_counts.Goals as goal

-- the zone's index is added as it is
added : (c : goal.After-index_of_count-index) → to_z w64 c.loop-count.index-bits +ℤ to_z w64 (of_z w64 c.index_of_count-index.result) ≡ to_z w64 c.loop-count.index-bits +ℤ c.index_of_count-index.result
added c = ap (λ z. to_z w64 c.loop-count.index-bits +ℤ z) (to_z-of_z w64 _ (search rules))

few-turns : (c : goal.After-index_of_count-index) → length c.loop-count.yielded + 1 ≤ 16
few-turns c =
    let turn = zip_turn c.args.counts.now c.args.zones.now c.loop-count.yielded c.into_iter-count-iterator.result c.loop-count.count-iterator c.next.new.self c.next.result (cc) (cc) c.loop-count.yielded_by (c.in-Some.count, c.in-Some.zone) c.in-Some.is c.next.ensures.steps in
    let here = turn.0 in
    omega (arith, here, c.requires.zones)

turned : (c : goal.After-index_of_count-index) → IndexSoFar c.args.averages.now c.args.counts.now c.args.zones.now (length c.loop-count.yielded + 1) (to_z w64 c.loop-count.index-bits +ℤ c.index_of_count-index.result)
turned c =
    index-next c.args.averages.now c.args.counts.now c.args.zones.now (length c.loop-count.yielded) (to_z w64 c.loop-count.index-bits) c.index_of_count-index.result c.in-Some.count.now c.in-Some.zone.now c.loop-count.invariant
    (zip_turn c.args.counts.now c.args.zones.now c.loop-count.yielded c.into_iter-count-iterator.result c.loop-count.count-iterator c.next.new.self c.next.result (cc) (cc) c.loop-count.yielded_by (c.in-Some.count, c.in-Some.zone) c.in-Some.is c.next.ensures.steps)
    c.index_of_count-index.ensures.index c.index_of_count-index.ensures.bounded

fits : (c : goal.After-index_of_count-index) → FitsSigned w64 (to_z w64 c.loop-count.index-bits +ℤ c.index_of_count-index.result)
fits c =
    let bound : unsigned_abs (to_z w64 c.loop-count.index-bits +ℤ c.index_of_count-index.result) ≤ 89910000000 * (length c.loop-count.yielded + 1) = (turned c).bound in
    let few = few-turns c in
    fits_signed_from_abs w64 (to_z w64 c.loop-count.index-bits +ℤ c.index_of_count-index.result) (omega (arith, bound, few))

pub loop-count-preserved : goal.loop-count-preserved
loop-count-preserved c =
    rw (added c, to_z-of_z w64 _ (fits c), length-append) (turned c)

pub returns-clause-index : goal.returns-clause-index
returns-clause-index c =
    index-whole c.args.averages.now c.args.counts.now c.args.zones.now (length c.loop-count.yielded) (to_z w64 c.loop-count.index-bits) c.loop-count.invariant
    (zip_end c.args.counts.now c.args.zones.now c.loop-count.yielded c.into_iter-count-iterator.result c.loop-count.count-iterator c.next.new.self c.next.result (cc) (cc) c.loop-count.yielded_by c.in-None.is c.next.ensures.steps)
