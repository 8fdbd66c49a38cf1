use Rattle.std.proofs.Common.{w64, FitsSigned, rules}
use Rattle.std.specs.Prelude.{pos, ◌≤ℤ◌}
use Rattle.std.proofs.lemmas.Int.{to_z-of_z}
use Rattle.assignment_draft.proofs.NearNumbers.{is-not-less}
use Rattle.assignment_draft.proofs.search.up_to.Goals as goal

pub returns-else-much-lt0-clause-low : goal.returns-else-much-lt0-clause-low
returns-else-much-lt0-clause-low c =
    let some : pos 0 ≤ℤ c.args.much = is-not-less c.args.much (pos 0) (rw (to_z-of_z w64 c.args.much c.ranges.much) at c.if-much-lt0.false) in
    let greatest = rw (to_z-of_z w64 c.args.much c.ranges.much, to_z-of_z w64 c.args.most c.ranges.most) at c.lesser.ensures.greatest in
    let fits : FitsSigned w64 c.lesser.result = search rules in
    rw (to_z-of_z w64 c.lesser.result fits) (greatest (pos 0) some c.requires)
