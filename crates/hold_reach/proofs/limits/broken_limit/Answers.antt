use Rattle.std.proofs.Common.{◌≡◌, ℕ, List, Option, ap, sym, ◌∙◌, option_map, rules, tests}
use Rattle.std.specs.Prelude.{position}
use Rattle.std.specs.Option.{option_or}
use Rattle.hold_limits.specs.Layout.{Layout}
use Rattle.hold_limits.specs.Problem.{Problem}
use Rattle.hold_reach.specs.declared.rule.RuleBroken.{RuleBroken}
use Rattle.hold_reach.specs.declared.rule.RuleBroken.TheVariants as rule
use Rattle.hold_reach.specs.Rules.{breaks_combined, breaks_cumulative, limit_broken}
use Rattle.hold_reach.proofs.LoadLemmas.{broken_combined-is, broken_cumulative-is}
use Rattle.hold_reach.proofs.limits.broken_limit.Goals as goal

-- the combined limits come first
first : (t : Problem) (prefix : List ℕ) (found : Option ℕ) → position (breaks_combined t prefix) t.hold.combined ≡ found
    → option_or (option_map rule.Combined found) (option_map rule.Cumulative (position (breaks_cumulative t prefix) t.hold.cumulative)) ≡ limit_broken t prefix
first t prefix found is =
    let later : Option RuleBroken = option_map rule.Cumulative (position (breaks_cumulative t prefix) t.hold.cumulative) in
    sym (ap (λ (n : Option ℕ). option_or (option_map rule.Combined n) later) is)

pub returns-in-Some-clause-value : goal.returns-in-Some-clause-value
returns-in-Some-clause-value c =
    let found = broken_combined-is c.args.task.now c.args.prefix.now _ _ _ c.stowage_in-stowage.ensures.stowed (c.combined.ensures.value ∙ ap (λ (h : Layout). h.combined) c.hold-hold.ensures.value) c.broken_combined.ensures in
    first c.args.task.now c.args.prefix.now _ (sym found ∙ c.in-Some.is)

pub returns-clause-value : goal.returns-clause-value
returns-clause-value c =
    let found = broken_combined-is c.args.task.now c.args.prefix.now _ _ _ c.stowage_in-stowage.ensures.stowed (c.combined.ensures.value ∙ ap (λ (h : Layout). h.combined) c.hold-hold.ensures.value) c.broken_combined.ensures in
    let later = broken_cumulative-is c.args.task.now c.args.prefix.now _ _ _ c.stowage_in-stowage.ensures.stowed (c.cumulative.ensures.value ∙ ap (λ (h : Layout). h.cumulative) c.hold-hold.ensures.value) c.broken_cumulative.ensures in
    let mapped : c.map.result ≡ option_map rule.Cumulative c.broken_cumulative.result = search (rules, tests) in
    mapped ∙ ap (option_map rule.Cumulative) later ∙ first c.args.task.now c.args.prefix.now _ (sym found ∙ c.in_default.is)
