use Rattle.std.proofs.Common.{sym, subst, List, ℕ}
use Rattle.std.specs.Prelude.{IfSome, IfNone}
use Rattle.plan_commands.specs.Arguments.{Job, AskFor}
use Rattle.plan_commands.specs.Commands.{job_of}
use Rattle.plan_commands.specs.declared.arguments.Command.{Command}
use Rattle.plan_commands.proofs.ArgumentLemmas.{six_words, seven_words}
use Rattle.plan_commands.proofs.arguments.form_of.Goals as goal

pub returns-in-len6-clause-none : goal.returns-in-len6-clause-none
returns-in-len6-clause-none c =
    let words = six_words c.args.arguments.now c.name-item-then-arguments-lt7.result c.task-item-then-arguments-lt7.result c.cpm-item.result c.ldm-item.result c.station-item.result c.next-item.result _ _ _ _ _ _
    c.as_str-in-len6.result.now c.as_str-in-len6-2.result.now c.as_str-in-len6-3.result.now c.as_str-in-len6-4.result.now c.as_str-in-len6-5.result.now c.as_str-in-len6-6.result.now
    c.in-len6.len_at_least c.in-len6.len_below c.name-item-then-arguments-lt7.is c.task-item-then-arguments-lt7.is c.cpm-item.is c.ldm-item.is c.station-item.is c.next-item.is
    c.as_str-in-len6.ensures.value c.as_str-in-len6-2.ensures.value c.as_str-in-len6-3.ensures.value c.as_str-in-len6-4.ensures.value c.as_str-in-len6-5.ensures.value c.as_str-in-len6-6.ensures.value in
    subst (λ (ws : List (List ℕ)). IfNone c.with_five_operands.result ((job : Job) → AskFor ws job → ⊥)) (sym words) c.with_five_operands.ensures.none

pub returns-in-len7-clause-some : goal.returns-in-len7-clause-some
returns-in-len7-clause-some c =
    let words = seven_words c.args.arguments.now c.name-item-then-arguments-lt8.result c.task-item-then-arguments-lt8.result c.cpm-item-then-arguments-lt8.result c.ldm-item-then-arguments-lt8.result c.station-item-then-arguments-lt8.result c.next-item-then-arguments-lt8.result c.budget-item.result _ _ _ _ _ _ _
    c.as_str-in-len7.result.now c.as_str-in-len7-2.result.now c.as_str-in-len7-3.result.now c.as_str-in-len7-4.result.now c.as_str-in-len7-5.result.now c.as_str-in-len7-6.result.now c.as_str-in-len7-7.result.now
    c.in-len7.len_at_least c.in-len7.len_below c.name-item-then-arguments-lt8.is c.task-item-then-arguments-lt8.is c.cpm-item-then-arguments-lt8.is c.ldm-item-then-arguments-lt8.is c.station-item-then-arguments-lt8.is c.next-item-then-arguments-lt8.is c.budget-item.is
    c.as_str-in-len7.ensures.value c.as_str-in-len7-2.ensures.value c.as_str-in-len7-3.ensures.value c.as_str-in-len7-4.ensures.value c.as_str-in-len7-5.ensures.value c.as_str-in-len7-6.ensures.value c.as_str-in-len7-7.ensures.value in
    subst (λ (ws : List (List ℕ)). IfSome c.with_six_operands.result (λ (command : Command). AskFor ws (job_of command))) (sym words) c.with_six_operands.ensures.some

pub returns-in-len7-clause-none : goal.returns-in-len7-clause-none
returns-in-len7-clause-none c =
    let words = seven_words c.args.arguments.now c.name-item-then-arguments-lt8.result c.task-item-then-arguments-lt8.result c.cpm-item-then-arguments-lt8.result c.ldm-item-then-arguments-lt8.result c.station-item-then-arguments-lt8.result c.next-item-then-arguments-lt8.result c.budget-item.result _ _ _ _ _ _ _
    c.as_str-in-len7.result.now c.as_str-in-len7-2.result.now c.as_str-in-len7-3.result.now c.as_str-in-len7-4.result.now c.as_str-in-len7-5.result.now c.as_str-in-len7-6.result.now c.as_str-in-len7-7.result.now
    c.in-len7.len_at_least c.in-len7.len_below c.name-item-then-arguments-lt8.is c.task-item-then-arguments-lt8.is c.cpm-item-then-arguments-lt8.is c.ldm-item-then-arguments-lt8.is c.station-item-then-arguments-lt8.is c.next-item-then-arguments-lt8.is c.budget-item.is
    c.as_str-in-len7.ensures.value c.as_str-in-len7-2.ensures.value c.as_str-in-len7-3.ensures.value c.as_str-in-len7-4.ensures.value c.as_str-in-len7-5.ensures.value c.as_str-in-len7-6.ensures.value c.as_str-in-len7-7.ensures.value in
    subst (λ (ws : List (List ℕ)). IfNone c.with_six_operands.result ((job : Job) → AskFor ws job → ⊥)) (sym words) c.with_six_operands.ensures.none
