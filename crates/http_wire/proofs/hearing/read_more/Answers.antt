-- What was read stands behind what was heard.
use Rattle.std.proofs.Common.{arith}
use Rattle.http_wire.proofs.InputLemmas.{to_come-read}
use Rattle.http_wire.proofs.hearing.read_more.Goals as goal

pub returns-clause-heard : goal.returns-clause-heard
returns-clause-heard g c =
    to_come-read c.read.result _ _ c.args.buffer.now c.read.new.buf _ _ (omega (arith, c.requires.room)) (rw c.read.ensures.length c.read.ensures.within) c.read.ensures.moved
