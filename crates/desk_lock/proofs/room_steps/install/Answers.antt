use Rattle.std.proofs.Common.{[], ◌∷◌, Some, sym, ap, ◌∙◌, subst, arith}
use Rattle.desk_lock.proofs.room_steps.install.Goals as goal

pub open-requires-clause-held : goal.open-requires-clause-held
open-requires-clause-held g c =
    let M = g.M.Machine in
    let machine = c.args.machine in (
      machine,
      c.give.ensures.held ∙ ap (λ z. (z.0, (0, Some machine) ∷ [])) c.clear.ensures.out.1,
      record {
        same = ap M.setting (sym c.requires.machine);
        later = subst (λ m. M.follows c.args.board.now.shared.key.machine m) c.requires.machine (g.met.M.Machine.follows_itself _);
        history = ap M.history (sym c.requires.machine);
        spare = let h = c.requires.spare in omega arith;
      },
    )
