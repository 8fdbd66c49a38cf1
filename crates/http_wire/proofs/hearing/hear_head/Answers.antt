-- What is found in the first bytes, as many as a head has at most, is found in all that was heard.
use Rattle.std.proofs.Common.{◌∙◌, ◌≤◌, ℕ, List, ap, arith, length, refl, subst, take, ◌++◌}
use Rattle.httparse.specs.Grammar.{HasNoRequest}
use Rattle.http_wire.specs.Requests.{Refuses}
use Rattle.http_wire.proofs.InputLemmas.{looked_at, refused_front}
use Rattle.http_wire.proofs.RequestLemmas.{head_kept}
use Rattle.http_wire.proofs.hearing.hear_head.Goals as goal

pub returns-in-Whole-clause-heard : goal.returns-in-Whole-clause-heard
returns-in-Whole-clause-heard g c =
    let below : c.min.result ≤ c.reads.end = omega (arith, c.min.ensures) in
    let inside : c.reads.end ≤ length c.reads.buffer = omega (arith, c.reads.invariant.size, c.reads.invariant.full) in (
      c.reads.invariant.heard,
      head_kept c.reads.buffer c.reads.buffer c.min.result c.reads.end c.in-Whole.places (omega (arith, below, inside)) inside below refl c.in-Whole.ensures.finds,
    )

pub returns-in-Refused-clause-heard : goal.returns-in-Refused-clause-heard
returns-in-Refused-clause-heard g c =
    let seen = ap (λ n. take n c.reads.buffer) c.min.ensures ∙ looked_at c.reads.end c.reads.buffer in
    refused_front 8192 (take c.reads.end c.reads.buffer) _ _ c.in-Refused.reason c.reads.invariant.heard
    (subst (λ l. (more : List ℕ) → Refuses (l ++ more) c.in-Refused.reason) seen c.in-Refused.ensures.finds)

pub hear_more-requires-clause-unfinished : goal.hear_more-requires-clause-unfinished
hear_more-requires-clause-unfinished g c =
    let seen = ap (λ n. take n c.reads.buffer) c.min.ensures ∙ looked_at c.reads.end c.reads.buffer in
    subst HasNoRequest seen c.in-Unfinished.ensures.finds
