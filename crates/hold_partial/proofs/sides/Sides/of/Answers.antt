use Rattle.std.proofs.Common.{◌≡◌, true, pos, int_lt, nat_lt, length, ◌∙◌, refl, arith}
use Rattle.std.proofs.lemmas.Bool.Decides.{nat_tests}
use Rattle.hold_limits.specs.Lateral.{side_at}
use Rattle.position_set.specs.Sets.{has}
use Rattle.hold_partial.proofs.ArrangementLemmas.{at_rank-same}
use Rattle.hold_partial.proofs.sides.Sides.of.Goals as goal

pub returns : goal.returns
returns c =
    let hold = c.args.hold.now in
    record {
      right = λ r. c.ranks_of.ensures r ∙ at_rank-same hold c.args.ranks.now c.requires (has c.right_positions.result) (λ q. int_lt (pos 0) (side_at hold q))
          (λ q below. let inside : nat_lt q (length hold.positions) ≡ true = grind (arith, nat_tests) in c.right_positions.ensures.value q ∙ rw inside refl) r;
      left = λ r. c.ranks_of-2.ensures r ∙ at_rank-same hold c.args.ranks.now c.requires (has c.left_positions.result) (λ q. int_lt (side_at hold q) (pos 0))
          (λ q below. let inside : nat_lt q (length hold.positions) ≡ true = grind (arith, nat_tests) in c.left_positions.ensures.value q ∙ rw inside refl) r;
    }
