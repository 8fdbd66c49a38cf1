use Rattle.std.proofs.Common.{◌≡◌, ◌∙◌, ◌++◌, map, ◌∷◌, [], List, true, ap, rules, arith, length, get_or}
use Rattle.std.specs.Prelude.{is_ok}
use Rattle.std.proofs.lemmas.List.{take_all}
use Rattle.serde_json.specs.Data.{Data, array}
use Rattle.serde_json.specs.View.{view, items_of}
use Rattle.serde_json.specs.Written.{has_float}
use Rattle.serde_json.specs.declared.value.Value.TheVariants.{Array}
use Rattle.serde_json.proofs.Views.{view-Array}
use Rattle.trim.specs.declared.rules.Rule.{Rule}
use Rattle.trim.specs.declared.rules.Rule.TheVariants.{Ramp}
use Rattle.desk_answers.specs.Words.{rule_items}
use Rattle.desk_answers.proofs.Texts.{told, one_more, no_float}
use Rattle.desk_answers.proofs.json.rules_value.Goals as goal

pub loop-rule-preserved : goal.loop-rule-preserved
loop-rule-preserved c =
    let same = c.as_slice-rule-items.ensures.value in
    let i = c.loop-rule.rule-index in
    let good : is_ok c.push.result ≡ true = search rules in
    let grown : c.push.new.self.items ≡ c.loop-rule.texts.items ++ c.in_ok-rule_value.field-0 ∷ [] = rw good at c.push.ensures.items in
    let said : view c.in_ok-rule_value.field-0 ≡ told (get_or c.as_slice-rule-items.result.now i Ramp) = c.in_ok-rule_value.ensures in
    let long : length c.as_slice-rule-items.result.now ≡ length c.args.rules.now.items = ap length same in
    one_more c.args.rules.now.items i Ramp c.loop-rule.texts.items c.push.new.self.items c.in_ok-rule_value.field-0
    (omega (arith, long, c.loop-rule-test.true)) (said ∙ ap (λ (rules : List Rule). told (get_or rules i Ramp)) same) grown c.loop-rule.invariant

-- all texts are gathered
gathered : (c : goal.After-loop-rule) → view (Array c.loop-rule.texts) ≡ array (rule_items c.args.rules.now.items)
gathered c =
    let long : length c.as_slice-rule-items.result.now ≡ length c.args.rules.now.items = ap length c.as_slice-rule-items.ensures.value in
    view-Array c.loop-rule.texts ∙ ap (λ (texts : List Data). array (items_of texts))
    (c.loop-rule.invariant ∙ ap (map told) (take_all c.loop-rule.rule-index c.args.rules.now.items (omega (arith, long, c.loop-rule-test.false))))

pub returns-clause-texts : goal.returns-clause-texts
returns-clause-texts c = gathered c

pub returns-clause-exact : goal.returns-clause-exact
returns-clause-exact c = ap has_float (gathered c) ∙ no_float c.args.rules.now.items
