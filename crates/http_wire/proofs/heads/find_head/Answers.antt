-- Why a head is refused, whatever follows what was heard.
use Rattle.std.proofs.Common.{◌≡◌, length, rules}
use Rattle.httparse.specs.Grammar.{NeverHasRequest}
use Rattle.httparse.specs.Spans.{RequestExceeds}
use Rattle.http_wire.proofs.HeadLemmas.{refused_bad, refused_framing, refused_many}
use Rattle.http_wire.proofs.heads.find_head.Goals as goal

pub returns-in-Err-TooManyHeaders : goal.returns-in-Err-TooManyHeaders
returns-in-Err-TooManyHeaders c =
    let exceeds : RequestExceeds 64 c.args.heard.now = search rules in
    record { finds = refused_many c.args.heard.now exceeds c.in-Err-TooManyHeaders.ensures.no_room }

pub returns-in-Err : goal.returns-in-Err
returns-in-Err c =
    let never : NeverHasRequest c.args.heard.now = search rules in
    record { finds = refused_bad c.args.heard.now never }

pub returns-in-Err-framing_of : goal.returns-in-Err-framing_of
returns-in-Err-framing_of c =
    let room : length c.parse_request.new.headers ≡ 64 = search rules in
    let within = rw c.in-Ok-Complete.field-0-is at c.in-Ok-Complete.ensures.within in
    let found = rw c.in-Ok-Complete.field-0-is at c.in-Ok-Complete.ensures.complete in
    record {
      finds = refused_framing c.args.heard.now c.parse_request.new.headers c.in-Ok-Complete.spans c.in-Ok-Complete.spans.version c.in-Err-framing_of.reason
          c.requires.short room within found c.in-Err-framing_of.ensures;
    }
