use Rattle.aircraft_file.proofs.KeyLemmas.{keys_from}
use Rattle.aircraft_file.proofs.ValueLemmas.{keys_alone}
use Rattle.aircraft_file.proofs.laws.file_laws.Goals as goal

pub returns-clause-numbers : goal.returns-clause-numbers
returns-clause-numbers c = keys_from

pub returns-clause-alone : goal.returns-clause-alone
returns-clause-alone c = keys_alone
