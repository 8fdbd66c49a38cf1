use Rattle.std.proofs.Common.{◌⊎◌, IsTrue, IsFalse, inl, inr}
use Rattle.desk_http.proofs.Stepping.{continues, last_one, breaks}
use Rattle.desk_http.proofs.connection.serve_next.Goals.{then-received+else-not-is_final, else-received}
use Rattle.desk_http.proofs.connection.serve_next.Goals as goal

pub returns-in-Ok-clause-steps : goal.returns-in-Ok-clause-steps
returns-in-Ok-clause-steps g c =
    let e = c.in-Ok-Some.ensures in
    let w = c.in-Ok.ensures in
    inr (last_one _ _ _ _ _ _ _ _ _ _ _ _ _ _ _ _ _ c.in-Ok-Some.received _ _
    (rw c.in-Ok-Some.field-0-is at e.heard) c.answer_asked-reply.ensures.answered c.closes.ensures
    record { output = e.output_kept; reads = e.counts; writes = e.writes_kept } record { input = w.input_kept; reads = w.reads_kept }
    w.whole w.uncounted c.if-received.true c.if-not-is_final.true)

pub returns-in-Ok-2-clause-steps : goal.returns-in-Ok-2-clause-steps
returns-in-Ok-2-clause-steps g c =
    let e = c.in-Ok-Some.ensures in
    let w = c.in-Ok-2.ensures in
    let next : IsFalse c.in-Ok-Some.received.last ⊎ IsTrue c.args.is_final =
    elim c.if-received.branch [ then-received+else-not-is_final w ↦ inr w.if-not-is_final.false | else-received w ↦ inl w.if-received.false ] in
    continues _ _ _ _ _ _ _ _ _ _ _ _ _ _ _ _ _ c.in-Ok-Some.received _ _
    (rw c.in-Ok-Some.field-0-is at e.heard) c.answer_asked-reply.ensures.answered c.closes.ensures
    record { output = e.output_kept; reads = e.counts; writes = e.writes_kept } record { input = w.input_kept; reads = w.reads_kept }
    w.whole w.uncounted next (rw c.in-Ok-Some.field-0-is at e.over)

pub returns-in-Ok-Some-clause-steps : goal.returns-in-Ok-Some-clause-steps
returns-in-Ok-Some-clause-steps g c =
    let e = c.in-Ok-Some.ensures in
    let w = c.in-Err.ensures in
    inl (breaks _ _ _ _ _ _ _ _ _ _ _ _ _ _ _ _ _ c.in-Ok-Some.received _ _
    (rw c.in-Ok-Some.field-0-is at e.heard) c.answer_asked-reply.ensures.answered c.closes.ensures
    record { output = e.output_kept; reads = e.counts; writes = e.writes_kept } record { input = w.input_kept; reads = w.reads_kept } w.part w.counted)
