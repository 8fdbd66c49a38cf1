use Rattle.std.proofs.lemmas.Option.{IfSome_then}
use Rattle.text_lines.proofs.NameLemmas.{none_then}
use Rattle.problem_text.proofs.limit_readers.read_side.Goals as goal

pub returns-clause-found : goal.returns-clause-found
returns-clause-found c =
    IfSome_then c.read_said.result c.read_said.ensures.found
    (λ side read. record { said = read.said; kept = read.kept; right = read.right.0; is = read.is })

pub returns-clause-none : goal.returns-clause-none
returns-clause-none c = none_then c.read_said.result (λ none side s e. none side (s, tt) e) c.read_said.ensures.none
