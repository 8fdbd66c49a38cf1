use Rattle.std.proofs.Common.{◌≡◌, ◌+ℤ◌, List, map, w64, to_z, of_z, ap, ap₂, ◌∙◌, arith}
use Rattle.std.proofs.lemmas.Int.{ints, to_z-of_z, fits_signed_from_abs}
use Rattle.payload.specs.Load.{cabin_index}
use Rattle.payload.specs.declared.figures.Averages.{Averages}
use Rattle.payload.specs.declared.figures.Zone.{Zone}
use Rattle.payload.specs.declared.figures.ZoneCount.{ZoneCount}
use Rattle.base_words.specs.Lists.{int_sum_by}
use Rattle.hold_limits.specs.Layout.{Layout}
use Rattle.hold_limits.specs.Placement.{loose_moment}
use Rattle.trim.specs.Loads.{load_told, loose_loads}
use Rattle.last_minute.proofs.unplaced.weigh_unplaced.Goals as goal

pub overflow_add-result-2 : goal.overflow_add-result-2
overflow_add-result-2 c = omega (arith, ints, c.index_of_counts.ensures.bounded, c.index_of_loads.ensures.bounded)

counted : (c : goal.After-drop-loads) → to_z w64 (of_z w64 c.index_of_counts.result) ≡ c.index_of_counts.result
counted c = to_z-of_z w64 _ (fits_signed_from_abs w64 _ (omega (arith, c.index_of_counts.ensures.bounded)))

loaded : (c : goal.After-drop-loads) → to_z w64 (of_z w64 c.index_of_loads.result) ≡ c.index_of_loads.result
loaded c = to_z-of_z w64 _ (fits_signed_from_abs w64 _ (omega (arith, c.index_of_loads.ensures.bounded)))

added : (c : goal.After-drop-loads) → to_z w64 (of_z w64 (c.index_of_counts.result +ℤ c.index_of_loads.result)) ≡ c.index_of_counts.result +ℤ c.index_of_loads.result
added c = to_z-of_z w64 _ (fits_signed_from_abs w64 _ (omega (arith, ints, c.index_of_counts.ensures.bounded, c.index_of_loads.ensures.bounded)))

counts_told : (c : goal.After-drop-loads) → c.index_of_counts.result ≡ cabin_index c.args.a.now.averages c.args.a.now.zones c.args.f.now.cabin
counts_told c =
    c.index_of_counts.ensures.index
    ∙ ap (λ (averages : Averages). cabin_index averages c.zones.result.now c.as_slice-counts.result.now) c.averages-2.ensures.value
    ∙ ap (λ (zones : List Zone). cabin_index c.args.a.now.averages zones c.as_slice-counts.result.now) c.zones.ensures.value
    ∙ ap (λ (cabin : List ZoneCount). cabin_index c.args.a.now.averages c.args.a.now.zones cabin) c.as_slice-counts.ensures

loads_told : (c : goal.After-drop-loads) → c.index_of_loads.result ≡ int_sum_by (loose_moment c.args.a.now.hold) (loose_loads c.args.a.now c.args.f.now)
loads_told c =
    c.index_of_loads.ensures.sum
    ∙ ap (λ (hold : Layout). int_sum_by (loose_moment hold) c.as_slice-3.result.now) c.hold.ensures.value
    ∙ ap (int_sum_by (loose_moment c.args.a.now.hold)) (c.as_slice-3.ensures.value ∙ c.in_ok-loads.ensures.told ∙ ap (map (load_told c.args.a.now)) c.as_slice.ensures)

pub returns-clause-index : goal.returns-clause-index
returns-clause-index c =
    ap (λ z. to_z w64 (of_z w64 z)) (ap₂ (λ x y. x +ℤ y) (counted c) (loaded c)) ∙ added c ∙ ap₂ (λ x y. x +ℤ y) (counts_told c) (loads_told c)
