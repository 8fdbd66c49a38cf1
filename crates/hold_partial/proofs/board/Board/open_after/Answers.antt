use Rattle.std.proofs.Common.{ℕ, Bool, ◌≡◌, ◌&&◌, ◌||◌, ◌==◌, not, nat_le, [], ◌∷◌, ◌++◌, length, Some, ap₂, sym, subst, ◌∙◌}
use Rattle.std.specs.Prelude.{slice_get}
use Rattle.hold_limits.specs.BranchOrder.{ordered}
use Rattle.hold_limits.specs.Enumeration.{exclude}
use Rattle.hold_reach.specs.Reach.{is_open}
use Rattle.hold_reach.proofs.ReachLemmas.{next-item}
use Rattle.hold_partial.proofs.AheadLemmas.{at_rank-less, open-next, open-next_twin, twins-apart}
use Rattle.hold_partial.proofs.ClosedLemmas.{at_rank-ext, twins-of_class}
use Rattle.hold_partial.proofs.KeptLemmas.{no_demand, no_entry, demand-is, entry-is}
use Rattle.hold_partial.proofs.board.Board.open_after.Goals as goal

pub returns-then-deref-item : goal.returns-then-deref-item
returns-then-deref-item c = λ container there r.
    let b = c.args.self.now in
    let t = b.task.now in
    let prefix = b.prefix.items in
    let q = c.args.position in
    let ranks = b.tables.ranks.items in
    let next = next-item t (length prefix) c.requires.short in
    let at_next = subst (λ n. slice_get (ordered t.items) n ≡ Some next.0) (sym c.len-next.ensures.value) next.1 in
    let of_next = demand-is t b.tables c.requires.kept.prepared c.deref-2.result.now c.len-next.result no_demand next.0 c.deref-2.ensures.0 at_next in
    let of_item = demand-is t b.tables c.requires.kept.prepared c.deref.result.now c.args.item no_demand container c.deref.ensures.0 there in
    let twins = twins-of_class t (length prefix) next.0 container next.1 (sym of_next.twins ∙ sym c.if-deref-item.true ∙ of_item.twins) in
    let place = entry-is t b.tables c.requires.kept.prepared c.deref-then-deref-item.result.now q no_entry c.deref-then-deref-item.ensures.0 c.requires.position in
    let left : ℕ → Bool = λ a. is_open t prefix container a && not ((q == a) || exclude t.hold q a) in
    c.difference.ensures r ∙ ap₂ (λ stands closed. stands && not closed) (c.unblocked-unblocked.ensures container there r) (place.closed_ranks r)
    ∙ at_rank-less left (λ a. nat_le a q) (is_open t (prefix ++ q ∷ []) container) ranks (λ a. open-next_twin t prefix next.0 container q a next.1 twins) r

pub returns-else-deref-item : goal.returns-else-deref-item
returns-else-deref-item c = λ container there r.
    let b = c.args.self.now in
    let t = b.task.now in
    let prefix = b.prefix.items in
    let q = c.args.position in
    let next = next-item t (length prefix) c.requires.short in
    let at_next = subst (λ n. slice_get (ordered t.items) n ≡ Some next.0) (sym c.len-next.ensures.value) next.1 in
    let of_next = demand-is t b.tables c.requires.kept.prepared c.deref-2.result.now c.len-next.result no_demand next.0 c.deref-2.ensures.0 at_next in
    let of_item = demand-is t b.tables c.requires.kept.prepared c.deref.result.now c.args.item no_demand container c.deref.ensures.0 there in
    let apart = twins-apart t next.0 container _ _ of_next.twins of_item.twins c.if-deref-item.false in
    let left : ℕ → Bool = λ a. is_open t prefix container a && not ((q == a) || exclude t.hold q a) in
    c.unblocked-unblocked.ensures container there r
    ∙ at_rank-ext left (is_open t (prefix ++ q ∷ []) container) b.tables.ranks.items (λ a. sym (open-next t prefix next.0 container q a next.1 apart)) r
