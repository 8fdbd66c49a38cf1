use Rattle.std.proofs.Common.{◌≡◌, ◌+◌, ℕ, List, [], Some, false, sym, ◌∙◌, ap, subst}
use Rattle.desk_lock.specs.declared.views.Origin.{Origin}
use Rattle.desk_lock.specs.Histories.{Continues}
use Rattle.desk_lock.specs.Views.{card, card_of, seen_of}
use Rattle.desk_lock.specs.Steps.{Seated, HasServed, desk_seat}
use Rattle.desk_lock.specs.Desks.{IsAnswered}
use Rattle.desk_lock.proofs.Owning.{answered}
use Rattle.desk_lock.proofs.desk.Desk.call.Goals as goal

-- a desk that stood back, drew, got its turn, served and woke the others has answered its call
call_answered : {M E G Q R : Type 0} (setting_of : M → G) (history_of : M → List E) (desk_of : E → ℕ) (fits : G → List E → ℕ → Q → E → R → Type 0)
    (p : Origin M) (k t : ℕ) (request : Q) (reply : R) (start old drawn waited served woken : Seated M E)
    → old ≡ start
    → drawn ≡ desk_seat p k (card (Some t) (Some t) false (seen_of old.0)) []
    → Continues desk_of (k + 1) (card_of drawn.0).seen (seen_of waited.0)
    → HasServed setting_of history_of desk_of fits p k t request reply waited.0 served
    → woken ≡ served
    → IsAnswered desk_of fits (setting_of p.machine) (k + 1) request reply (seen_of start.0) (seen_of woken.0)
call_answered {M} {E} {G} {Q} {R} setting_of history_of desk_of fits p k t request reply start old drawn waited served woken stood d c s same =
    let was : (card_of drawn.0).seen ≡ seen_of start.0 = ap (λ (z : Seated M E). (card_of z.0).seen) d ∙ ap (λ (z : Seated M E). seen_of z.0) stood in
    let is : seen_of woken.0 ≡ s.after = ap (λ (z : Seated M E). seen_of z.0) (same ∙ s.at) in
    subst (λ after. IsAnswered desk_of fits (setting_of p.machine) (k + 1) request reply (seen_of start.0) after) (sym is)
    (answered desk_of fits (setting_of p.machine) (k + 1) request reply (seen_of start.0) (seen_of waited.0) s.after
    (subst (λ seen. Continues desk_of (k + 1) seen (seen_of waited.0)) was c) s.turn)

pub returns-clause-answered : goal.returns-clause-answered
returns-clause-answered g c =
    call_answered _ _ _ _ _ _ _ _ _ c.args.self.now.seat.me _ _ c.wait.new.seat.me _ _ c.stand_back.ensures.unchanged
    (rw c.deref-2.ensures at c.draw-ticket.ensures.drawn) c.wait.ensures.turn.1 (rw c.deref-4.ensures at c.serve-reply.ensures.served)
    c.wake.ensures.unchanged
