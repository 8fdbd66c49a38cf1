use Rattle.stop_text.proofs.FileLines.{spelled_once}
use Rattle.stop_text.proofs.LawLemmas.{lawful_not_refused, refused_once}
use Rattle.stop_text.proofs.laws.stop_text_laws.Goals as goal

pub returns-clause-one_file : goal.returns-clause-one_file
returns-clause-one_file c = spelled_once

pub returns-clause-lawful : goal.returns-clause-lawful
returns-clause-lawful c = lawful_not_refused

pub returns-clause-one_fault : goal.returns-clause-one_fault
returns-clause-one_fault c = refused_once
