use Rattle.std.proofs.Common.{◌≡◌, ◌<◌, List, [], ◌∷◌, ℕ, zero, suc, length, map, get_or, ap, sym, ◌∙◌, refl, arith}
use Rattle.std.proofs.lemmas.Bool.{false≢true}
use Rattle.position_set.specs.declared.set.PositionSet.{PositionSet}
use Rattle.position_set.specs.Sets.{members}
use Rattle.hold_choices.proofs.choices.are_same.Goals as goal

members-at : (sets : List PositionSet) (k : ℕ) (d : PositionSet) → k < length sets → get_or (map members sets) k [] ≡ members (get_or sets k d)
members-at [] k d within = absurd (omega (arith, within))
members-at (s ∷ sets) zero d within = refl
members-at (s ∷ sets) (suc k) d within = members-at sets k d (omega (arith, within))

pub returns-then-not-is_same : goal.returns-then-not-is_same
returns-then-not-is_same c =
    let sets : List PositionSet = c.args.sets.now in
    let others : List PositionSet = c.args.others.now in
    let rank : ℕ = c.loop-rank.rank in
    let none : PositionSet = record { 0 = 0 } in (
      λ no. absurd (false≢true no),
      λ is.
          let here : members (get_or sets rank none) ≡ members (get_or others rank none) =
          sym (members-at sets rank none c.loop-rank-test.true) ∙ ap (λ xs. get_or xs rank []) is ∙ members-at others rank none (omega (arith, c.loop-rank-test.true, c.if-sets-others.false)) in
          absurd (false≢true (sym c.if-not-is_same.true ∙ c.is_same.ensures.1 here)),
    )
