use Rattle.std.proofs.Common.{ap, ◌∙◌, refl, arith}
use Rattle.std.proofs.lemmas.Int.{ints}
use Rattle.hold_limits.specs.Placement.{hold_index, lateral_difference}
use Rattle.hold_partial.proofs.LevelSteps.{level-start}
use Rattle.hold_partial.proofs.board.level_of_none.Goals as goal

pub returns-clause-value : goal.returns-clause-value
returns-clause-value c = λ ranks.
    let t = c.args.task.now in
    level-start t ranks _ c.empty.ensures c.empty-2.ensures (c.hold_index_of.ensures.value ∙ ap (hold_index t) (c.as_slice.ensures.value ∙ c.new-none.ensures))
    (omega (arith, ints, c.lateral_difference_of.ensures.value ∙ ap (lateral_difference t) (c.as_slice-2.ensures.value ∙ c.new-none.ensures))) refl
