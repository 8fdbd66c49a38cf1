use Rattle.std.proofs.Common.{◌≡◌, ℕ, [], ◌∷◌, ◌++◌, length, Option, Some, None, option_map, sym, ◌∙◌, ap, subst, arith}
use Rattle.std.proofs.lemmas.Bool.{false≢true}
use Rattle.std.specs.Prelude.{is_some}
use Rattle.hold_reach.specs.declared.rule.RuleBroken.{RuleBroken}
use Rattle.hold_reach.specs.Reach.{Meets, gap_to_ideal}
use Rattle.hold_reach.specs.Rules.{limit_broken}
use Rattle.hold_reach.proofs.ReachLemmas.{next-item}
use Rattle.hold_reach.proofs.ViableLemmas.{IsRising-front}
use Rattle.hold_partial.proofs.OutlookLemmas.{sound-where_open, rising-where_open, open-where_viable, unbroken-where_sound, none-where_not_some}
use Rattle.hold_partial.proofs.outlook.Outlook.bound_on.Goals as goal

pub returns-then-not-is_open-clause-none : goal.returns-then-not-is_open-clause-none
returns-then-not-is_open-clause-none c =
    let b = c.self.inside.board.now in
    let next = next-item b.task.now (length b.prefix.items) c.self.invariant.short in
    let is = (rw (← c.self.view_is) at c.is_open.ensures) next.0 next.1 in
    rw (← c.self.view_is) (λ viable. absurd (false≢true (sym c.if-not-is_open.true ∙ is ∙ open-where_viable b.task.now b.prefix.items next.0 c.args.number next.1 viable)))

pub returns-then-not-is_rising-clause-none : goal.returns-then-not-is_rising-clause-none
returns-then-not-is_rising-clause-none c =
    let b = c.self.inside.board.now in
    rw (← c.self.view_is) (λ viable. absurd (false≢true (sym c.if-not-is_rising.true ∙ c.is_rising.ensures.1 (IsRising-front b.task.now b.prefix.items (c.args.number ∷ []) viable.rising))))

pub returns-then-is_some-clause-none : goal.returns-then-is_some-clause-none
returns-then-is_some-clause-none c =
    let b = c.self.inside.board.now in
    let next = next-item b.task.now (length b.prefix.items) c.self.invariant.short in
    rw (← c.self.view_is) (λ viable.
    let none = c.limit_against.ensures ∙ unbroken-where_sound b.task.now b.prefix.items next.0 c.args.number next.1 viable.sound in
    absurd (false≢true (sym (ap (λ (rule : Option RuleBroken). is_some rule) none) ∙ sym c.if-is_some.ensures)))

pub returns-then-not-can_meet_lateral_limit_after-clause-none : goal.returns-then-not-can_meet_lateral_limit_after-clause-none
returns-then-not-can_meet_lateral_limit_after-clause-none c =
    rw (← c.self.view_is) (λ viable. absurd (false≢true (sym c.if-not-can_meet_lateral_limit_after.true ∙ c.can_meet_lateral_limit_after.ensures.1 viable.lateral)))

pub gap_to_ideal-requires-clause-bounded : goal.gap_to_ideal-requires-clause-bounded
gap_to_ideal-requires-clause-bounded c = let bound = c.in_ok-span.ensures.bounded in (omega (arith, bound.0), omega (arith, bound.1))

pub returns-clause-found : goal.returns-clause-found
returns-clause-found c =
    let b = c.self.inside.board.now in
    let t = b.task.now in
    let prefix = b.prefix.items in
    let q = c.args.number in
    let next = next-item t (length prefix) c.self.invariant.short in
    let open_now = (rw (← c.self.view_is) at c.is_open.ensures) next.0 next.1 in
    let reached = rw (← c.self.view_is) at c.in_ok-span.ensures.value in
    let unbroken : limit_broken t (prefix ++ q ∷ []) ≡ None = sym c.limit_against.ensures ∙ none-where_not_some c.limit_against.result (sym c.is_some.ensures ∙ c.if-is_some.false) in
    rw (← c.self.view_is) (
      record {
        sound = sound-where_open t prefix next.0 q next.1 c.self.invariant.kept.sound (sym open_now ∙ c.if-not-is_open.false) unbroken;
        rising = rising-where_open t prefix next.0 q next.1 (c.is_rising.ensures.0 c.if-not-is_rising.false) (sym open_now ∙ c.if-not-is_open.false);
        window = subst (λ span. Meets t.low t.high span) reached (c.meets_window.ensures.0 c.if-not-meets_window.false);
        lateral = c.can_meet_lateral_limit_after.ensures.0 c.if-not-can_meet_lateral_limit_after.false;
      },
      ap (option_map (gap_to_ideal t)) (sym reached) ∙ ap (λ (gap : ℕ). Some gap) (sym c.gap_to_ideal.ensures),
    )
