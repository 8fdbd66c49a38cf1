-- A long body follows its head.
use Rattle.std.proofs.Common.{Result, Ok, Err, OnErr}
use Rattle.std.proofs.lemmas.Result.{on_ok_weaker, on_err_weaker}
use Rattle.load_io.proofs.SinkLemmas.{Appends-append, AppendsPart-append, AppendsPart-front}
use Rattle.http_wire.proofs.answers.answer.Goals as goal

-- what holds anyway holds at a failure
at_failure : {T E P : Type 0} (result : Result T E) → P → OnErr result P
at_failure (Ok it) holds = tt
at_failure (Err fault) holds = holds

pub returns-in_err-send_all-in-Err-clause-part : goal.returns-in_err-send_all-in-Err-clause-part
returns-in_err-send_all-in-Err-clause-part g c =
    let part = rw (c.as_slice-in-Err.ensures.value, c.in-Err.ensures.err, c.head_of-piece.ensures) at c.in_err-send_all-in-Err.ensures.part in
    at_failure c.from_residual.result (AppendsPart-front _ _ _ c.args.body.now part)

pub returns-in_ok-send_all-in-Err-clause-whole : goal.returns-in_ok-send_all-in-Err-clause-whole
returns-in_ok-send_all-in-Err-clause-whole g c =
    let head = rw (c.as_slice-in-Err.ensures.value, c.in-Err.ensures.err, c.head_of-piece.ensures) at c.in_ok-send_all-in-Err.ensures.whole in
    on_ok_weaker c.send_all-in-Err-2.result (λ body. Appends-append _ _ _ _ _ head body) c.send_all-in-Err-2.ensures.whole

pub returns-in_ok-send_all-in-Err-clause-part : goal.returns-in_ok-send_all-in-Err-clause-part
returns-in_ok-send_all-in-Err-clause-part g c =
    let head = rw (c.as_slice-in-Err.ensures.value, c.in-Err.ensures.err, c.head_of-piece.ensures) at c.in_ok-send_all-in-Err.ensures.whole in
    on_err_weaker c.send_all-in-Err-2.result (λ body. AppendsPart-append _ _ _ _ _ head body) c.send_all-in-Err-2.ensures.part
