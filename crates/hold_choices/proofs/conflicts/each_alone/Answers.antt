use Rattle.std.proofs.Common.{◌≡◌, ◌==◌, ℕ, arith, ◌∙◌}
use Rattle.std.proofs.lemmas.List.{length-set}
use Rattle.position_set.specs.declared.set.PositionSet.{PositionSet}
use Rattle.position_set.specs.Sets.{has}
use Rattle.hold_choices.proofs.ListLemmas.{each-set}
use Rattle.hold_choices.proofs.conflicts.each_alone.Goals as goal

pub loop-number-preserved : goal.loop-number-preserved
loop-number-preserved c = record {
  long = length-set c.loop-number.sets _ _ ∙ c.loop-number.invariant.long;
  each = each-set (λ q (set : PositionSet). (p : ℕ) → has set p ≡ (p == q)) c.loop-number.sets c.loop-number.number c.from.result c.of.result (omega arith)
      (omega (arith, c.loop-number.invariant.long)) c.loop-number.invariant.each c.of.ensures;
}

pub returns : goal.returns
returns c = λ q p d within. c.loop-number.invariant.each q d (omega (arith, within)) p
