use Rattle.std.proofs.Common.{◌<◌, arith, subst}
use Rattle.desk_service.specs.Alone.{Counted, IsLater}
use Rattle.desk_service.specs.Turns.{setting_of, Calls}
use Rattle.desk_service.proofs.Moments.{turn_calls, turn_later}
use Rattle.desk_service.proofs.solo.SoloCounter.call.Goals as goal

pub returns-clause-answered : goal.returns-clause-answered
returns-clause-answered g c =
    subst (λ (now : Counted). Calls (setting_of now.books) 1 c.args.request c.turn.result now.books.history c.turn.new.self.history) c.self.view_is
    (turn_calls _ _ _ _ _ _ _ c.turn.ensures.turn)

pub returns-clause-follows : goal.returns-clause-follows
returns-clause-follows g c =
    let some : 0 < c.self.inside.office.spare = let e = c.spare.ensures in let no = c.if-spare-eq0.false in omega (arith, e, no) in
    subst (λ (now : Counted). IsLater now (record { books = c.turn.new.self; faults = g.K.Keeper.faults c.turn.new.keeper })) c.self.view_is
    (turn_later _ _ _ _ _ _ c.turn.ensures.turn c.turn.ensures.never_falls some)
