-- The body is whole, or cut, or broken off; the head stays while more of the body is heard.
use Rattle.std.proofs.Common.{◌≡◌, ◌∙◌, ◌+◌, ◌≤◌, Ok, ap, arith, length, take}
use Rattle.http_wire.specs.Hearing.{to_come}
use Rattle.http_wire.proofs.InputLemmas.{all_heard, heard_length}
use Rattle.http_wire.proofs.RequestLemmas.{head_kept, none_whole_yet, refused_cut, whole_request}
use Rattle.http_wire.proofs.hearing.hear_body.Goals as goal

pub returns-in-Err-clause-heard : goal.returns-in-Err-clause-heard
returns-in-Err-clause-heard g c =
    let l = c.reads in
    let heard = take l.end l.buffer in (
      heard,
      ap (to_come heard) c.in-Err.ensures.untouched ∙ l.invariant.heard,
      none_whole_yet heard c.args.places l.invariant.head (omega (arith, c.reads-test.true, heard_length _ _ l.invariant.size l.invariant.full)),
    )

pub returns-in-Ok-eq0-clause-heard : goal.returns-in-Ok-eq0-clause-heard
returns-in-Ok-eq0-clause-heard g c =
    let l = c.reads in
    let heard = take l.end l.buffer in
    let ended = c.read_more.ensures.ended (c.in-Ok-eq0.is ∙ ap Ok c.in-Ok-eq0.field-0-test) in
    refused_cut heard c.args.places _ l.invariant.head (omega (arith, c.reads-test.true, heard_length _ _ l.invariant.size l.invariant.full))
    (all_heard heard _ _ l.invariant.heard ended)

pub reads-preserved : goal.reads-preserved
reads-preserved g c =
    let l = c.reads in
    let new = c.read_more.new in
    let more = c.in-Ok.ensures in
    let full : l.end + c.in-Ok.n ≤ 24576 = omega (arith, more.within, l.invariant.size) in
    let size : length new.buffer ≡ 24576 = more.size ∙ l.invariant.size in
    record {
      size = size;
      full = full;
      head = head_kept l.buffer new.buffer l.end (l.end + c.in-Ok.n) c.args.places (omega (arith, l.invariant.size, l.invariant.full)) (omega (arith, size, full))
          (omega arith) more.kept l.invariant.head;
      heard = more.heard ∙ l.invariant.heard;
      output_kept = more.output_kept ∙ l.invariant.output_kept;
      reads_kept = more.uncounted ∙ l.invariant.reads_kept;
      writes_kept = more.writes_kept ∙ l.invariant.writes_kept;
      same_references = more.same_references ∙ l.invariant.same_references;
    }

pub returns-clause-heard : goal.returns-clause-heard
returns-clause-heard g c =
    let l = c.reads in (
      l.invariant.heard,
      whole_request (take l.end l.buffer) c.args.places l.invariant.head (omega (arith, c.reads-test.false, heard_length _ _ l.invariant.size l.invariant.full)),
    )
