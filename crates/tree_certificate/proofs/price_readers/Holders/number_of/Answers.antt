use Rattle.tree_certificate.proofs.WordForms.{none_unless_number}
use Rattle.tree_certificate.proofs.price_readers.Holders.number_of.Goals as goal

pub returns-in-Positions-clause-found : goal.returns-in-Positions-clause-found
returns-in-Positions-clause-found c = rw c.in-Positions.is c.number_named.ensures.found

pub returns-in-Positions-clause-none : goal.returns-in-Positions-clause-none
returns-in-Positions-clause-none c = rw c.in-Positions.is c.number_named.ensures.none

pub returns-in-Numbers-clause-none : goal.returns-in-Numbers-clause-none
returns-in-Numbers-clause-none c = rw c.in-Numbers.is (none_unless_number c.args.word.now c.read_number.result c.read_number.ensures.read_back)
