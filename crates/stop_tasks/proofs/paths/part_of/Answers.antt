use Rattle.std.proofs.lemmas.List.{append-nil}
use Rattle.std.proofs.lemmas.Slice.Zip.{zip_end}
use Rattle.std.proofs.Common.{◌≡◌, length, min}
use Rattle.stop_tasks.proofs.StayingLemmas.{staying-past}
use Rattle.stop_tasks.proofs.paths.part_of.Goals as goal

pub returns : goal.returns
returns c =
    let prefix = c.args.prefix.now in
    let last = c.args.last.now in
    let end : length c.loop-position.yielded ≡ min (length prefix) (length last) =
    zip_end prefix last c.loop-position.yielded c.into_iter-position-iterator.result c.loop-position.position-iterator c.next.new.self c.next.result (cc) (cc) c.loop-position.yielded_by c.in-None.is c.next.ensures.steps in
    let none = staying-past prefix last c.args.number (length c.loop-position.yielded) end in
    let rest = c.loop-position.invariant.rest in
    rw (none, append-nil) at rest
