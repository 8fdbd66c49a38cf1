use Rattle.std.proofs.Common.{◌≡◌, refl, ◌∙◌, subst, below_more, arith}
use Rattle.std.proofs.lemmas.Option.{get_or_from_slice_get, slice_get_within}
use Rattle.hold_limits.specs.Problem.{Problem}
use Rattle.hold_limits.specs.Placement.{IsAdmissible}
use Rattle.stop_tasks.proofs.admissible.are_parts_admissible.Goals as goal

pub loop-place-preserved : goal.loop-place-preserved
loop-place-preserved c =
    below_more _ _ c.loop-place.invariant
    (λ (sector : Problem) at_place.
    let same : c.index-sectors-place.result ≡ sector = c.index-sectors-place.is ∙ get_or_from_slice_get c.args.sectors.now c.loop-place.place sector _ at_place in
    let holds = c.is_admissible.ensures.0 c.if-not-is_admissible.false in
    rw (← same) (subst (IsAdmissible c.index-sectors-place.result) (c.as_slice.ensures.value ∙ c.part_of.ensures) holds))

pub returns : goal.returns
returns c = (
  λ is place sector at_place. c.loop-place.invariant place (let inside = slice_get_within c.args.sectors.now place sector at_place in omega arith) sector at_place,
  λ all. refl,
)
