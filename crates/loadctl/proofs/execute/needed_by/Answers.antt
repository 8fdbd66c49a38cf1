use Rattle.plan_commands.specs.Arguments.{arguments_of}
use Rattle.std.proofs.Common.{Err, ap}
use Rattle.loadctl.proofs.NeedLemmas.{needed-nothing}
use Rattle.loadctl.proofs.execute.needed_by.Goals as goal

pub returns-in-Err-Usage : goal.returns-in-Err-Usage
returns-in-Err-Usage c = needed-nothing (arguments_of c.args.words.now.items) (c.in-Err-Usage.ensures.usage (ap (λ f. Err f) c.in-Err-Usage.field-0-is))
