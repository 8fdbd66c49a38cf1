use Rattle.problem_text.proofs.RefusalLemmas.{spelled_once, lawful_not_refused, refused_once, some_answer}
use Rattle.problem_text.proofs.laws.reading_laws.Goals as goal

pub returns-clause-one_task : goal.returns-clause-one_task
returns-clause-one_task c = spelled_once

pub returns-clause-lawful : goal.returns-clause-lawful
returns-clause-lawful c = lawful_not_refused

pub returns-clause-one_fault : goal.returns-clause-one_fault
returns-clause-one_fault c = refused_once

pub returns-clause-some_answer : goal.returns-clause-some_answer
returns-clause-some_answer c = some_answer
