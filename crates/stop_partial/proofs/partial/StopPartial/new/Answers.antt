use Rattle.std.proofs.Common.{[], refl, ◌∙◌}
use Rattle.std.proofs.lemmas.Bool.{false≢true}
use Rattle.std.specs.Prelude.{IfSome, slice_get}
use Rattle.hold_limits.specs.Problem.{Problem}
use Rattle.hold_limits.specs.Placement.{IsSound}
use Rattle.stop_partial.proofs.SectorLemmas.{second-there, told-of_value, viable-empty, viable-empty_third}
use Rattle.stop_partial.proofs.partial.StopPartial.new.Goals as goal

pub returns-in_err-ok-clause-none : goal.returns-in_err-ok-clause-none
returns-in_err-ok-clause-none c = rw c.from_residual.ensures (λ prefix viable.
    let sound = viable-empty c.args.stops.now prefix 0 c.first.result.now c.first.ensures.value viable in
    false≢true (c.in_err-ok.ensures.variant ∙ c.new.ensures.sound.1 sound))

pub returns-in_err-ok-2-clause-none : goal.returns-in_err-ok-2-clause-none
returns-in_err-ok-2-clause-none c = rw c.from_residual-in_err-ok-2.ensures (λ prefix viable.
    let there = second-there c.args.stops.now c.index-sectors-1.result c.sectors-sectors.ensures.lawful (rw c.sectors-sectors.ensures.value at c.index-sectors-1.is) in
    let sound = viable-empty c.args.stops.now prefix 1 c.index-sectors-1.result there viable in
    false≢true (c.in_err-ok-2.ensures.variant ∙ c.new-2.ensures.sound.1 sound))

pub returns-in_err-ok-3-clause-none : goal.returns-in_err-ok-3-clause-none
returns-in_err-ok-3-clause-none c = rw c.from_residual-in_err-ok-3.ensures (λ prefix viable.
    let sound : IfSome (slice_get c.sectors-sectors.result.now 2) (λ sector. IsSound sector []) = rw c.sectors-sectors.ensures.value (viable-empty_third c.args.stops.now prefix viable) in
    false≢true (c.in_err-ok-3.ensures.variant ∙ c.third_of.ensures.sound.1 sound))

pub invariant_of-result : goal.invariant_of-result
invariant_of-result c =
    let first : Problem = c.first.result.now in
    let stops = c.args.stops.now in
    let on_first = told-of_value _ c.new.result c.in_ok-ok.field-0 c.in_ok-ok.ensures.value c.new.ensures.made in
    let on_second = told-of_value _ c.new-2.result c.in_ok-ok-2.field-0 c.in_ok-ok-2.ensures.value c.new-2.ensures.made in
    let on_third = told-of_value _ c.third_of.result c.in_ok-ok-3.field-0 c.in_ok-ok-3.ensures.value c.third_of.ensures.made in
    let there = second-there stops c.index-sectors-1.result c.sectors-sectors.ensures.lawful (rw c.sectors-sectors.ensures.value at c.index-sectors-1.is) in
    rw (on_first, on_second, on_third) (record {
      lawful = c.sectors-sectors.ensures.lawful;
      last = c.last_sectors.ensures first c.first.ensures.value;
      is_first = c.first.ensures.value;
      is_second = there;
      is_third = rw c.sectors-sectors.ensures.value refl;
    })
