use Rattle.std.proofs.Common.{refl, ◌≡◌, true, List, sym, subst}
use Rattle.flight_state.specs.declared.change.Lmc.{Lmc}
use Rattle.flight_state.specs.Effective.{can_add_all}
use Rattle.desk_tests.proofs.histories.standing.Goals as goal

pub standing_after-requires : goal.standing_after-requires
standing_after-requires c = subst (λ (lmcs : List Lmc). can_add_all c.in_ok-opened.opened.base lmcs ≡ true) (sym c.in_ok-opened.ensures) refl
