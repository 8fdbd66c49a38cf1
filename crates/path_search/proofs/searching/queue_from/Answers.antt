use Rattle.std.proofs.Common.{◌≡◌, ℕ, List, [], ◌∷◌, sym, subst, ◌∙◌}
use Rattle.std.specs.Prelude.{IsPermutation}
use Rattle.hold_limits.specs.Placement.{Key}
use Rattle.path_search.proofs.QueueLemmas.{one-alone}
use Rattle.path_search.proofs.searching.queue_from.Goals as goal
use Rattle.path_search.proofs.searching.queue_from.Goals.{in-Some+in_ok-add, in_default}

pub returns : goal.returns
returns c = elim c.match-first.branch [
  | in-Some+in_ok-add w ↦
      let k : Key = (w.in-Some.bound, w.new-prefix.result.items) in
      let added : IsPermutation (k ∷ []) c.match-first.queue =
      subst (λ new. IsPermutation (k ∷ []) new) (sym w.queue-is) (subst (λ old. IsPermutation (k ∷ old) w.add.new.self) c.new-queue.ensures w.in_ok-add.ensures.added) in
      rw w.in-Some.is (subst (λ (p : List ℕ). c.match-first.queue ≡ (w.in-Some.bound, p) ∷ []) w.new-prefix.ensures (one-alone k c.match-first.queue added))
  | in_default w ↦ rw w.in_default.is (w.queue-is ∙ c.new-queue.ensures)
]
