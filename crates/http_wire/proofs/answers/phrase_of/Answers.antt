-- Each status that is answered has a short phrase.
use Rattle.std.proofs.Common.{◌≡◌, rules}
use Rattle.http_wire.specs.Answer.{phrase_of}
use Rattle.http_wire.proofs.StatusLemmas.{status_usual}
use Rattle.http_wire.proofs.answers.phrase_of.Goals as goal

pub returns-in-Ok-clause-short : goal.returns-in-Ok-clause-short
returns-in-Ok-clause-short c =
    let text : c.unwrap_or.result.now ≡ phrase_of c.args.status = search rules in
    rw text (status_usual c.args.status c.requires.known).short

pub returns-in-Err-clause-text : goal.returns-in-Err-clause-text
returns-in-Err-clause-text c =
    let usual = status_usual c.args.status c.requires.known in
    absurd (c.in-Err.ensures (usual.least, usual.below))
