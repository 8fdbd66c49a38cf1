use Rattle.std.proofs.Common.{sym, ◌∙◌, arith}
use Rattle.std.proofs.lemmas.Bool.{false≢true}
use Rattle.stop_partial.proofs.SectorLemmas.{bound-told, viable-parts, viable-short, viable-whole}
use Rattle.stop_partial.proofs.partial.StopPartial.viable_bound_at.Goals as goal
use Rattle.stop_partial.proofs.partial.StopPartial.viable_bound_at.Goals.{then-prefix-len-via-then-prefix-len, then-prefix-len-via-else-prefix-len+then-not-is_reachable}

pub returns-then-prefix-len-clause-none : goal.returns-then-prefix-len-clause-none
returns-then-prefix-len-clause-none c = rw (← c.self.view_is) (λ viable.
    let parts = viable-parts _ _ _ _ c.self.inside.third _ c.self.invariant viable in
    elim c.then-prefix-len.branch [
      | then-prefix-len-via-then-prefix-len w ↦ omega (arith, w.if-prefix-len.true, c.len.ensures.value, viable-short _ _ _ _ _ _ c.self.invariant viable)
      | then-prefix-len-via-else-prefix-len+then-not-is_reachable w ↦
          let reach = rw (w.as_slice.ensures.value, w.behind.ensures.value) at w.is_reachable.ensures in
          false≢true (sym w.if-not-is_reachable.true ∙ reach.1 parts.reachable)
    ])

pub returns-then-not-moves_to_viable-clause-none : goal.returns-then-not-moves_to_viable-clause-none
returns-then-not-moves_to_viable-clause-none c = rw (← c.self.view_is) (λ viable.
    let parts = viable-parts _ _ _ _ c.self.inside.third _ c.self.invariant viable in
    false≢true (sym c.if-not-moves_to_viable.true ∙ c.moves_to_viable.ensures.viable.1 parts.on_first))

pub returns-then-not-moves_to_viable-2-clause-none : goal.returns-then-not-moves_to_viable-2-clause-none
returns-then-not-moves_to_viable-2-clause-none c = rw (← c.self.view_is) (λ viable.
    let parts = viable-parts _ _ _ _ c.self.inside.third _ c.self.invariant viable in
    let told = rw (c.as_slice-3.ensures.value, c.part_of-second.ensures, c.as_slice-2.ensures.value) at c.moves_to_viable-2.ensures.viable in
    false≢true (sym c.if-not-moves_to_viable-2.true ∙ told.1 parts.on_second))

pub returns-then-not-moves_third-clause-none : goal.returns-then-not-moves_third-clause-none
returns-then-not-moves_third-clause-none c = rw (← c.self.view_is) (λ viable.
    let parts = viable-parts _ _ _ _ c.self.inside.third _ c.self.invariant viable in
    let told = rw c.as_slice-4.ensures.value at c.moves_third.ensures.viable in
    false≢true (sym c.if-not-moves_third.true ∙ told.1 parts.on_third))

pub returns-clause-found : goal.returns-clause-found
returns-clause-found c =
    let reach = rw (c.as_slice.ensures.value, c.behind.ensures.value) at c.is_reachable.ensures in
    let on_first = c.moves_to_viable.ensures.viable.0 c.if-not-moves_to_viable.false in
    let on_second = rw (c.as_slice-3.ensures.value, c.part_of-second.ensures, c.as_slice-2.ensures.value) at c.moves_to_viable-2.ensures.viable in
    let on_third = rw c.as_slice-4.ensures.value at c.moves_third.ensures.viable in
    rw (← c.self.view_is) (bound-told c.self.inside.stops.now c.self.inside.first.task c.args.prefix.now c.wide_bound.result c.self.invariant.is_first
    (rw (c.moves_to_viable.ensures.task, c.moves_to_viable.ensures.moved c.if-not-moves_to_viable.false) at c.wide_bound.ensures)
    (viable-whole _ _ _ _ c.self.inside.third _ c.self.invariant (record {
      reachable = reach.0 c.if-not-is_reachable.false;
      on_first = on_first;
      on_second = on_second.0 c.if-not-moves_to_viable-2.false;
      on_third = on_third.0 c.if-not-moves_third.false;
    })))
