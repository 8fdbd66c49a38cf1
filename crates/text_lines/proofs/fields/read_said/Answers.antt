use Rattle.std.proofs.Common.{◌∙◌, sym}
use Rattle.std.proofs.lemmas.List.{append_cancel_left}
use Rattle.text_lines.proofs.NameLemmas.{none_then}
use Rattle.text_lines.proofs.fields.read_said.Goals as goal

pub returns-clause-none : goal.returns-clause-none
returns-clause-none g c =
    none_then c.read.result (λ none x s e. none x s (append_cancel_left c.args.keyword.now _ _ (sym c.in_ok-after_prefix.ensures.found ∙ e))) c.read.ensures.none
