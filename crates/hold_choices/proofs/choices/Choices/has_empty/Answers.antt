use Rattle.std.proofs.Common.{◌≡◌, ap, sym, ◌∙◌}
use Rattle.std.specs.List.{list_any}
use Rattle.position_set.specs.Sets.{members}
use Rattle.price_trees.specs.Narrowing.{is_empty}
use Rattle.hold_choices.proofs.ChoiceLemmas.{any-map}
use Rattle.hold_choices.proofs.choices.Choices.has_empty.Goals as goal

pub returns : goal.returns
returns c =
    let same : c.is_one_without.result ≡ list_any is_empty c.args.self.now =
    c.is_one_without.ensures ∙ sym (any-map is_empty members c.sets.result.now) ∙ ap (list_any is_empty) c.sets.ensures.sets in
    (λ yes. sym same ∙ yes, λ empty. same ∙ empty)
