use Rattle.std.proofs.Common.{◌≡◌, map, take}
use Rattle.serde_json.specs.Data.{string}
use Rattle.serde_json.specs.View.{view}
use Rattle.trim.specs.Rules.{rule_text}
use Rattle.trim.specs.declared.rules.Rule.{Rule}
use Rattle.desk_answers.proofs.json.rules_value.Given as goal

-- the texts of the rules so far
abbrev pub invariant-loop-rule : goal.invariant-loop-rule
invariant-loop-rule l = map view l.texts.items ≡ map (λ (rule : Rule). string (rule_text rule)) (take l.rule-index l.rules.items)
