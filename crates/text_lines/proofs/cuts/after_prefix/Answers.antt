use Rattle.text_lines.proofs.CutLemmas.{after_prefix_is}
use Rattle.std.proofs.Common.{rules}
use Rattle.text_lines.proofs.cuts.after_prefix.Goals as goal

pub returns-clause-found : goal.returns-clause-found
returns-clause-found c =
    let h = after_prefix_is c.args.text.now c.args.prefix.now c.strip_prefix.result c.strip_prefix.ensures.cases in search rules

pub returns-clause-none : goal.returns-clause-none
returns-clause-none c =
    let h = after_prefix_is c.args.text.now c.args.prefix.now c.strip_prefix.result c.strip_prefix.ensures.cases in search rules
