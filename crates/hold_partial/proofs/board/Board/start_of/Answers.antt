use Rattle.std.proofs.Common.{⊎_elim, arith}
use Rattle.std.proofs.lemmas.Int.{ints}
use Rattle.hold_partial.proofs.KeptLemmas.{no_level, level-is, index-bounded, lateral-bounded}
use Rattle.hold_partial.proofs.board.Board.start_of.Goals as goal

pub returns-in-Reach : goal.returns-in-Reach
returns-in-Reach c =
    let b = c.args.self.now in
    let level = level-is b c.requires c.len.result no_level c.len.ensures.value in
    let bound = index-bounded b c.requires c.len.result no_level c.len.ensures.value in
    ⊎_elim
    (λ is. rw is record { value = omega (arith, ints, level.index); bounded = omega (arith, ints, bound) })
    (λ is. rw is record { value = omega (arith, ints, level.index); bounded = omega (arith, ints, bound) })
    c.in-Reach.is

pub returns-in-LateralReach-clause-value : goal.returns-in-LateralReach-clause-value
returns-in-LateralReach-clause-value c =
    let level = level-is c.args.self.now c.requires c.len.result no_level c.len.ensures.value in
    rw c.in-LateralReach.is (omega (arith, ints, level.lateral))

pub returns-in-LateralReach-clause-bounded : goal.returns-in-LateralReach-clause-bounded
returns-in-LateralReach-clause-bounded c =
    let bound = lateral-bounded c.args.self.now c.requires c.len.result no_level c.len.ensures.value in
    omega (arith, ints, bound)
