use Rattle.tree_certificate.proofs.WordForms.{none_unless_numbered}
use Rattle.tree_certificate.proofs.line_readers.read_numbered.Goals as goal

pub returns-clause-none : goal.returns-clause-none
returns-clause-none c = none_unless_numbered c.args.word.now c.args.line.now c.in_ok-after_prefix.field-0.now c.read_number.result c.in_ok-after_prefix.ensures.found c.read_number.ensures.read_back
