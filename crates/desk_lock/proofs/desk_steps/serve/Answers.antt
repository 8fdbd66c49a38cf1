use Rattle.std.proofs.Common.{◌≡◌, [], ◌∷◌, ◌++◌, Some, sym, ap, ◌∙◌, subst, arith}
use Rattle.desk_lock.proofs.Closing.{same_machine}
use Rattle.desk_lock.proofs.desk_steps.serve.Goals as goal

pub advance-requires-clause-done : goal.advance-requires-clause-done
advance-requires-clause-done g c =
    let M = g.M.Machine in
    let h = c.requires.turn in
    let t = c.turn-reply.ensures in
    let after = c.turn-reply.new.self in
    let is : h.machine ≡ c.take-machine.result = same_machine _ _ _ (ap (λ z. z.1) h.after) c.take-machine.ensures.machine in
    record {
      machine = after;
      entry = t.turn.entry;
      log = h.log;
      at = c.give.ensures.held ∙ (ap (λ z. (z.0, (0, Some after) ∷ [])) c.take-machine.ensures.out ∙ ap (λ z. (z.0, (0, Some after) ∷ [])) h.after);
      grown = t.turn.appended ∙ ap (λ entries. entries ++ t.turn.entry ∷ []) (ap M.history (sym is) ∙ h.held.history);
      by = t.turn.by;
      same = t.setting ∙ (ap M.setting (sym is) ∙ h.held.same);
      later = g.met.M.Machine.follows_on _ _ _ h.held.later (subst (λ m. M.follows m after) (sym is) t.follows);
      spare = let room = h.held.spare in let used = t.used in let same = ap M.spare is in omega (arith, room, used, same);
    }
