use Rattle.std.proofs.Common.{◌≡◌, ◌∙◌, ap, length}
use Rattle.hold_limits.specs.Problem.{Problem}
use Rattle.stop_tasks.specs.StopPaths.{last_sectors}
use Rattle.stop_tasks.proofs.AdmissibleLemmas.{stop-admissible-parts}
use Rattle.stop_tasks.proofs.admissible.is_stop_admissible.Goals as goal

pub returns-then-is_reachable : goal.returns-then-is_reachable
returns-then-is_reachable c =
    let t = c.args.t.now in
    let path = c.args.path.now in
    let first : Problem = c.first.result.now in
    let whole : length path ≡ length first.items = c.if-path-items.false ∙ ap length c.items.ensures.value in
    let ranked = c.last_sectors-last.ensures first c.first.ensures.value in
    let last : c.as_slice.result.now ≡ last_sectors t first = c.as_slice.ensures.value ∙ ranked in
    let again : c.as_slice-then-is_reachable.result.now ≡ last_sectors t first = c.as_slice-then-is_reachable.ensures.value ∙ ranked in
    let reach = rw (last, c.behind.ensures.value) at (c.is_reachable.ensures) in
    let parts = rw (again, c.sectors.ensures.value) at (c.are_parts_admissible.ensures) in (
      λ is. record { first = first; is_first = c.first.ensures.value; complete = whole; reachable = reach.0 c.if-is_reachable.true; sectors = parts.0 is },
      λ admissible. parts.1 (stop-admissible-parts t first path c.first.ensures.value admissible).2,
    )

pub returns-else-is_reachable : goal.returns-else-is_reachable
returns-else-is_reachable c =
    let t = c.args.t.now in
    let path = c.args.path.now in
    let first : Problem = c.first.result.now in
    let ranked = c.last_sectors-last.ensures first c.first.ensures.value in
    let last : c.as_slice.result.now ≡ last_sectors t first = c.as_slice.ensures.value ∙ ranked in
    let reach = rw (last, c.behind.ensures.value) at (c.is_reachable.ensures) in (
      λ is. absurd (let no = c.if-is_reachable.false in cc),
      λ admissible. reach.1 (stop-admissible-parts t first path c.first.ensures.value admissible).1,
    )
