use Rattle.std.proofs.Common.{codes}
use Rattle.certificate.proofs.PathLemmas.{other_text}
use Rattle.tree_certificate.proofs.LineLemmas.{none_of_operations}
use Rattle.tree_certificate.proofs.line_readers.read_operation.Goals as goal

pub returns-clause-none : goal.returns-clause-none
returns-clause-none c =
    none_of_operations c.args.names.now.positions.now c.args.line.now c.read_split.result (other_text c.args.line.now (codes "residue") c.eq.result c.if-eq.false c.eq.ensures)
    c.in_default.ensures.none c.in_default-read_numbered.ensures.none c.read_split.ensures.none
