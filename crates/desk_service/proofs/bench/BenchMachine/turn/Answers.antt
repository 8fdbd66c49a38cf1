use Rattle.std.proofs.Common.{◌≡◌, ◌+◌, ◌-◌, ◌^◌, min, subst}
use Rattle.desk_lock.specs.Histories as lock
use Rattle.desk_service.specs.Alone.{Counted}
use Rattle.desk_service.specs.Several.{IsAfter, room_for}
use Rattle.desk_service.specs.Turns.{setting_of, IsTurnAfter}
use Rattle.desk_service.proofs.Shared.{desk_of, turn_taken, turn_after, one_less, still_few, has_spare}
use Rattle.desk_service.proofs.bench.BenchMachine.turn.Goals as goal

pub turn-requires-clause-spare : goal.turn-requires-clause-spare
turn-requires-clause-spare g c = has_spare _ (rw (← c.self.view_is) at c.requires.spare)

pub invariant_of-self : goal.invariant_of-self
invariant_of-self g c = (c.turn.ensures.tables c.self.invariant.0, still_few _ _ _ _ _ _ _ c.turn.ensures.turn c.self.invariant.1)

pub returns-clause-used : goal.returns-clause-used
returns-clause-used g c =
    subst (λ (now : Counted). min c.turn.new.self.spare (2 ^ 63 - 1) + 1 ≡ room_for now) c.self.view_is
    (one_less _ _ _ _ _ _ _ c.turn.ensures.turn (has_spare _ (rw (← c.self.view_is) at c.requires.spare)) c.self.invariant.1)

pub returns-clause-turn : goal.returns-clause-turn
returns-clause-turn g c =
    subst (λ (now : Counted). lock.IsTurn desk_of IsTurnAfter (setting_of now.books) now.books.history c.turn.new.self.history c.args.desk c.args.request c.turn.result) c.self.view_is
    (turn_taken _ _ _ _ _ _ _ c.turn.ensures.turn)

pub returns-clause-follows : goal.returns-clause-follows
returns-clause-follows g c =
    subst (λ (now : Counted). IsAfter now (record { books = c.turn.new.self; faults = g.K.Keeper.faults c.turn.new.keeper })) c.self.view_is
    (turn_after _ _ _ _ _ _ _ c.turn.ensures.turn c.turn.ensures.never_falls (has_spare _ (rw (← c.self.view_is) at c.requires.spare)))
