use Rattle.std.proofs.Common.{rules}
use Rattle.envelope.specs.Outline.{IsEnvelope}
use Rattle.envelope.proofs.CornerLemmas.{forward_inside}
use Rattle.envelope.proofs.Envelope.forward.Goals as goal

pub returns-clause-inside : goal.returns-clause-inside
returns-clause-inside c =
    let lawful : IsEnvelope c.args.self.now = search rules in forward_inside c.args.self.now lawful
