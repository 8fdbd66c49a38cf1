use Rattle.hold_limits.specs.Problem.{Problem}
use Rattle.stop_partial.specs.Next.{AreNextMoments}
use Rattle.stop_partial.proofs.NextLemmas.{moments-more}
use Rattle.stop_partial.proofs.next.moments_with.Goals as goal

pub returns-in-Some : goal.returns-in-Some
returns-in-Some c =
    let t : Problem = c.args.partial.now.task in
    let prefix = c.args.partial.now.prefix in
    let before : AreNextMoments t prefix c.in-Some.span = rw c.in-Some.is at c.requires.moments in
    let told = rw (c.task.ensures.value, c.prefix.ensures.value) at c.moment_on-moment.ensures.value in
    moments-more t prefix c.in-Some.span c.moment_on-moment.result c.min.result c.max.result before
    (record { position = c.args.number; sound = c.requires.fits; is = told })
    c.moment_on-moment.ensures.bounded c.min.ensures.value c.max.ensures.value
