use Rattle.std.proofs.Common.{arith}
use Rattle.std.proofs.lemmas.Int.{ints}
use Rattle.assignment.proofs.Starts.{settled-start}
use Rattle.assignment.proofs.standing.Standing.new.Goals as goal

pub returns-clause-settled : goal.returns-clause-settled
returns-clause-settled c =
    settled-start c.args.costs c.repeated.result.items c.repeated-2.result.items c.new.result.items _ c.requires c.repeated.ensures.count c.repeated-2.ensures.count
    c.repeated.ensures.each c.repeated-2.ensures.each c.new.ensures (omega (arith, ints))
