use Rattle.std.proofs.Common.{⊎_elim, ◌≡◌, ℕ, Bool, ◌<◌, ◌≤◌, map, length, List, refl, ap, sym, ◌∙◌}
use Rattle.std.proofs.lemmas.Bool.{false≢true}
use Rattle.position_set.specs.declared.set.PositionSet.{PositionSet}
use Rattle.position_set.specs.Sets.{has, members}
use Rattle.position_set.proofs.SetLemmas.{lt-or-le}
use Rattle.price_trees.specs.Narrowing.{cut}
use Rattle.hold_choices.proofs.NumberLemmas.{members-filtered}
use Rattle.hold_choices.proofs.ChoiceLemmas.{cut-set, cut-past}
use Rattle.hold_choices.proofs.choices.Choices.kept.Goals as goal
use Rattle.hold_choices.proofs.choices.Choices.kept.Goals.{in-Some, in_default}

pub returns : goal.returns
returns c =
    let test : ℕ → Bool = has c.args.names in
    let sets : List PositionSet = c.choice.inside.sets.items in
    let whole : cut test c.args.rank (map members sets) ≡ cut test c.args.rank c.args.self.now = ap (cut test c.args.rank) (c.choice.view_is ∙ c.copy-choice.ensures) in
    elim c.match-get_mut.branch [
      | in-Some w ↦
          let facts = w.in-Some.ensures in
          let within : c.args.rank < length sets = facts.variant.0 refl in
          ap (λ s. map members s.sets.items) w.choice-inside-is
          ∙ cut-set test sets c.args.rank w.intersection.result w.in-Some.set.now within facts.value (members-filtered w.intersection.result w.in-Some.set.now test (λ q _. w.intersection.ensures q))
          ∙ whole
      | in_default w ↦
          let past : length sets ≤ c.args.rank = ⊎_elim (λ (less : c.args.rank < length sets). absurd (false≢true (w.in_default.ensures.variant.1 less))) (λ from. from) (lt-or-le c.args.rank (length sets)) in
          ap (λ s. map members s.sets.items) w.choice-inside-is ∙ sym (cut-past test sets c.args.rank past) ∙ whole
    ]
