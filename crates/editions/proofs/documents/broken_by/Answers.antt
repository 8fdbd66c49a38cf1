use Rattle.std.proofs.Common.{◌∙◌, sym, ap, subst, length}
use Rattle.trim.specs.declared.figures.Figures.{Figures}
use Rattle.trim.specs.Limits.{KeepsLimits}
use Rattle.trim.specs.Refusals.{CanBeWeighed}
use Rattle.flight_state.proofs.LimitLemmas.{effective_keeps, same_parts}
use Rattle.editions.proofs.documents.broken_by.Goals as goal

pub rules_broken-requires-clause-limits : goal.rules_broken-requires-clause-limits
rules_broken-requires-clause-limits c = subst (λ (f : Figures). KeepsLimits f) (sym (c.deref.ensures ∙ c.in_ok-figures.ensures)) (effective_keeps c.args.flight.now c.requires.limits)

pub rules_broken-requires-clause-complete : goal.rules_broken-requires-clause-complete
rules_broken-requires-clause-complete c =
    let same = same_parts c.args.flight.now.base c.args.flight.now.lmcs in
    c.requires.complete ∙ sym (ap length same.containers) ∙ sym (ap (λ (f : Figures). length f.containers) (c.deref.ensures ∙ c.in_ok-figures.ensures))

pub rules_broken-requires-clause-weighed : goal.rules_broken-requires-clause-weighed
rules_broken-requires-clause-weighed c = subst (CanBeWeighed c.args.a.now) (sym (c.deref.ensures ∙ c.in_ok-figures.ensures)) c.requires.weighed
