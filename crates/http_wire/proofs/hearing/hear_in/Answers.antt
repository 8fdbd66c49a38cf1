-- What is heard in the window behind `start` is heard in the buffer.
use Rattle.std.proofs.Common.{◌∙◌, arith, sym}
use Rattle.http_wire.proofs.WireLemmas.{hears_elsewhere, window_front, window_put}
use Rattle.http_wire.proofs.hearing.hear_in.Goals as goal

pub returns-clause-heard : goal.returns-clause-heard
returns-clause-heard g c =
    let m = c.make_room in
    let r = c.hear_request-result in
    hears_elsewhere _ _ _ _ _ _ r.result
    (sym (window_put m.new.start _ r.new.end m.new.buffer r.new.buffer (omega (arith, m.ensures.size, m.ensures.room)) (omega (arith, r.ensures.size, r.ensures.full))))
    (window_front 24576 m.new.start m.new.end m.new.buffer m.ensures.ordered m.ensures.full ∙ m.ensures.kept)
    r.ensures.heard
