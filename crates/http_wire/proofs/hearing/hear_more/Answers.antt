-- What a head that is unfinished becomes.
use Rattle.std.proofs.Common.{◌∙◌, ◌<◌, ◌≤◌, Ok, ap, arith, length, take}
use Rattle.http_wire.specs.Hearing.{to_come}
use Rattle.http_wire.proofs.InputLemmas.{heard_length, none_whole, refused_end, refused_long}
use Rattle.http_wire.proofs.hearing.hear_more.Goals as goal

pub returns-then-end-ge-MOST_HEAD-clause-heard : goal.returns-then-end-ge-MOST_HEAD-clause-heard
returns-then-end-ge-MOST_HEAD-clause-heard g c =
    let long : 8192 ≤ length (take c.args.end c.args.buffer.now) = omega (arith, heard_length _ _ c.requires.size c.requires.full, c.if-end-ge-MOST_HEAD.true) in
    refused_long _ _ long c.requires.unfinished

pub returns-in-Err-clause-heard : goal.returns-in-Err-clause-heard
returns-in-Err-clause-heard g c =
    let heard = take c.args.end c.args.buffer.now in
    let short : length heard ≤ 8192 = omega (arith, heard_length _ _ c.requires.size c.requires.full, c.if-end-ge-MOST_HEAD.false) in
    (heard, ap (to_come heard) c.in-Err.ensures.untouched, none_whole heard short c.requires.unfinished)

pub returns-in-Ok-eq0-2-clause-heard : goal.returns-in-Ok-eq0-2-clause-heard
returns-in-Ok-eq0-2-clause-heard g c =
    let heard = take c.args.end c.args.buffer.now in
    let short : length heard ≤ 8192 = omega (arith, heard_length _ _ c.requires.size c.requires.full, c.if-end-ge-MOST_HEAD.false) in
    let some : 0 < length heard = omega (arith, heard_length _ _ c.requires.size c.requires.full, c.if-end-eq0.false) in
    refused_end heard _ some short c.requires.unfinished (c.read_more.ensures.ended (c.in-Ok-eq0.is ∙ ap Ok c.in-Ok-eq0.field-0-test))
