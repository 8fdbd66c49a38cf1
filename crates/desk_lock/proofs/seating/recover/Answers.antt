use Rattle.std.proofs.Common.{get_or, ap, sym, subst, ◌∙◌}
use Rattle.std.proofs.lemmas.Option.{slice_get-get_or}
use Rattle.desk_lock.specs.Rooms.{Closes}
use Rattle.desk_lock.proofs.Closing.{now_joined, covers, all_rest, closes, same_machine}
use Rattle.desk_lock.proofs.seating.recover.Goals as goal

pub collect_all-requires-clause-mine : goal.collect_all-requires-clause-mine
collect_all-requires-clause-mine g c k d lt = c.requires.all.mine k (get_or c.args.desks.items k d) (slice_get-get_or c.args.desks.items k d lt)

pub shut-requires-clause-all : goal.shut-requires-clause-all
shut-requires-clause-all g c = covers _ _ _ (now_joined _ _ _ _ _ c.collect_all.ensures.working) c.requires.all.all

pub shut-requires-clause-idle : goal.shut-requires-clause-idle
shut-requires-clause-idle g c = all_rest _ _ _ (now_joined _ _ _ _ _ c.collect_all.ensures.working) (λ i d e. (c.requires.all.mine i d e).0)

pub returns-clause-setting : goal.returns-clause-setting
returns-clause-setting g c =
    let ends = c.shut.ensures.machine in
    ap g.M.Machine.setting (sym (same_machine _ _ _ ends.1 c.take.ensures.machine)) ∙ ends.2.same

pub returns-clause-follows : goal.returns-clause-follows
returns-clause-follows g c =
    let ends = c.shut.ensures.machine in
    subst (λ m. g.M.Machine.follows c.args.board.now.shared.key.machine m) (same_machine _ _ _ ends.1 c.take.ensures.machine) ends.2.later

pub returns-clause-history : goal.returns-clause-history
returns-clause-history g c =
    let ends = c.shut.ensures.machine in
    let collected = now_joined _ _ _ _ _ c.collect_all.ensures.working in
    subst (λ m. Closes g.M.Machine.history g.M.Machine.desk_of c.args.board.now.shared.key c.args.count c.args.desks.items (g.M.Machine.history m))
    (same_machine _ _ _ ends.1 c.take.ensures.machine)
    (closes _ _ _ _ _ _ _ _ _ _ _ collected c.requires.all ends.2)
