use Rattle.std.proofs.Common.{ℕ, Bool, ◌&&◌, ◌||◌, ◌==◌, not, refl, ap₂, ◌∙◌}
use Rattle.hold_limits.specs.Enumeration.{exclude}
use Rattle.hold_reach.specs.Extents.{may_stand}
use Rattle.hold_partial.proofs.AheadLemmas.{at_rank-less}
use Rattle.hold_partial.proofs.KeptLemmas.{no_entry, entry-is}
use Rattle.hold_partial.proofs.board.Board.unblocked.Goals as goal

pub returns : goal.returns
returns c = λ container there r.
    let b = c.args.self.now in
    let t = b.task.now in
    let q = c.args.position in
    let place = entry-is t b.tables c.requires.kept.prepared c.deref.result.now q no_entry c.deref.ensures.0 c.requires.position in
    let may = may_stand c.args.extent t b.prefix.items container in
    let takes : ℕ → Bool = λ a. (q == a) || exclude t.hold q a in
    c.difference.ensures r ∙ ap₂ (λ stands blocked. stands && not blocked) (c.places_for.ensures container there r) (place.blocked_ranks r)
    ∙ at_rank-less may takes (λ a. may a && not (takes a)) b.tables.ranks.items (λ a. refl) r
