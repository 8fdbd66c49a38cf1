use Rattle.std.proofs.Common.{◌≡◌, ◌+◌, [], ◌∷◌, ◌++◌, not, get_or, take, drop, sym, ap, ◌∙◌, subst}
use Rattle.std.proofs.lemmas.Bool.{false≢true}
use Rattle.std.proofs.lemmas.List.{take_more, take-append-drop}
use Rattle.hold_limits.specs.Problem.{Problem}
use Rattle.hold_limits.specs.Placement.{IsSound}
use Rattle.hold_limits.proofs.SoundLemmas.{IsSound-front}
use Rattle.hold_partial.proofs.moves.move_to.Goals as goal

pub returns-then-is_err-clause-unsound : goal.returns-then-is_err-clause-unsound
returns-then-is_err-clause-unsound c = λ _ sound.
    let t = c.args.partial.now.task in
    let p = c.args.prefix.now in
    let rank = c.loop-rank.rank in
    let front : IsSound t (take (rank + 1) p) = IsSound-front t (take (rank + 1) p) (drop (rank + 1) p) (subst (IsSound t) (sym (take-append-drop (rank + 1) p)) sound) in
    let longer : take (rank + 1) p ≡ c.loop-rank.partial.prefix ++ get_or p rank 0 ∷ [] = take_more p rank 0 c.loop-rank-test.true ∙ ap (λ xs. xs ++ get_or p rank 0 ∷ []) (sym c.loop-rank.invariant.placed) in
    let next : IsSound c.loop-rank.partial.task (c.loop-rank.partial.prefix ++ get_or p rank 0 ∷ []) =
    subst (λ (task : Problem). IsSound task (c.loop-rank.partial.prefix ++ get_or p rank 0 ∷ [])) (sym c.loop-rank.invariant.task) (subst (IsSound t) longer front) in
    false≢true (sym (c.is_err.ensures.negation ∙ ap not c.if-is_err.true) ∙ c.try_place.ensures.sound.1 next)
