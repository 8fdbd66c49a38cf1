use Rattle.std.proofs.Common.{ℕ, Some, option_map, ap, sym, ◌∙◌, subst}
use Rattle.std.proofs.lemmas.Bool.{false≢true}
use Rattle.hold_reach.specs.Reach.{Meets, gap_to_ideal}
use Rattle.hold_partial.proofs.partial.Partial.viable_bound.Goals as goal

pub returns-then-not-is_rising-clause-none : goal.returns-then-not-is_rising-clause-none
returns-then-not-is_rising-clause-none c = rw (← c.self.view_is) (λ viable. absurd (false≢true (sym c.if-not-is_rising.true ∙ c.is_rising.ensures.1 viable.rising)))

pub returns-in_err-span-clause-none : goal.returns-in_err-span-clause-none
returns-in_err-span-clause-none c =
    let t = c.self.inside.board.task.now in
    rw (← c.self.view_is, c.from_residual.ensures) (λ viable. absurd (subst (λ reached. Meets t.low t.high reached) (sym c.in_err-span.ensures.value) viable.window))

pub returns-then-not-meets_window-clause-none : goal.returns-then-not-meets_window-clause-none
returns-then-not-meets_window-clause-none c =
    let t = c.self.inside.board.task.now in
    rw (← c.self.view_is) (λ viable.
    let met = c.meets_window.ensures.1 (subst (λ reached. Meets t.low t.high reached) (sym c.in_ok-span.ensures.value) viable.window) in
    absurd (false≢true (sym c.if-not-meets_window.true ∙ met)))

pub returns-then-not-can_meet_lateral_limit-clause-none : goal.returns-then-not-can_meet_lateral_limit-clause-none
returns-then-not-can_meet_lateral_limit-clause-none c =
    rw (← c.self.view_is) (λ viable. absurd (false≢true (sym c.if-not-can_meet_lateral_limit.true ∙ c.can_meet_lateral_limit.ensures.1 viable.lateral)))

pub returns-clause-found : goal.returns-clause-found
returns-clause-found c =
    let t = c.self.inside.board.task.now in
    rw (← c.self.view_is) (
      record {
        sound = c.self.invariant.sound;
        rising = c.is_rising.ensures.0 c.if-not-is_rising.false;
        window = subst (λ reached. Meets t.low t.high reached) c.in_ok-span.ensures.value (c.meets_window.ensures.0 c.if-not-meets_window.false);
        lateral = c.can_meet_lateral_limit.ensures.0 c.if-not-can_meet_lateral_limit.false;
      },
      ap (option_map (gap_to_ideal t)) (sym c.in_ok-span.ensures.value) ∙ ap (λ (gap : ℕ). Some gap) (sym c.gap_to_ideal.ensures),
    )
