use Rattle.std.proofs.Common.{◌≡◌, w64, to_z, of_z, ◌∙◌, arith}
use Rattle.std.proofs.lemmas.Int.{ints, to_z-of_z}
use Rattle.base_words.specs.Lists.{int_sum_by}
use Rattle.hold_limits.specs.Placement.{loose_lateral}
use Rattle.trim.proofs.rules.keeps_lateral_limit.Goals as goal

pub returns : goal.returns
returns c =
    let fits : to_z w64 (of_z w64 c.moment_of.result) ≡ c.moment_of.result = to_z-of_z w64 c.moment_of.result (omega (arith, ints, c.moment_of.ensures.bounded)) in
    let difference : to_z w64 (of_z w64 c.moment_of.result) ≡ int_sum_by (loose_lateral c.args.hold.now) c.args.stowage.now.items =
    fits ∙ rw c.as_slice.ensures.value at c.moment_of.ensures.value in
    rw difference at c.is_within_lateral.ensures.meaning
