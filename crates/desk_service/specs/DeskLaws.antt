-- moments of a desk follow one another
use Rattle.std.proofs.Common.{refl, ◌∙◌}
use Rattle.desk_lock.specs.declared.desk.Desk.{Desk}
use Rattle.desk_lock.specs.Desks.{IsSameDesk}

module _ {M Q R E G : Type 0} where
  -- nothing happened
  pub is_same_itself : (d : Desk M Q R E G) → IsSameDesk d d
  is_same_itself d = (refl, refl, refl, refl)

  -- what happened between, and then after it
  pub is_same_on : (first next last : Desk M Q R E G) → IsSameDesk first next → IsSameDesk next last → IsSameDesk first last
  is_same_on first next last early late =
      (late.0 ∙ early.0, late.1 ∙ early.1, late.2 ∙ early.2, late.3 ∙ early.3)
