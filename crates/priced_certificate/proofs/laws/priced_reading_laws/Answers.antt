use Rattle.certificate.proofs.AfterStart.{refused_once, states_something}
use Rattle.priced_certificate.specs.PricedText.{start_line}
use Rattle.priced_certificate.proofs.PricedParts.{priced, is_read_once, empty, empty_is, start_plain, spelled_once, spelled_has_no_fault}
use Rattle.priced_certificate.proofs.WriterLemmas.{written_spells}
use Rattle.priced_certificate.proofs.laws.priced_reading_laws.Goals as goal

pub returns-clause-one_certificate : goal.returns-clause-one_certificate
returns-clause-one_certificate c = spelled_once

pub returns-clause-no_fault : goal.returns-clause-no_fault
returns-clause-no_fault c = spelled_has_no_fault

pub returns-clause-one_fault : goal.returns-clause-one_fault
returns-clause-one_fault c = λ ps names. refused_once start_line start_plain (priced ps) (is_read_once ps names)

pub returns-clause-some_answer : goal.returns-clause-some_answer
returns-clause-some_answer c = λ ps. states_something start_line (priced ps) empty (empty_is ps)

pub returns-clause-read_back : goal.returns-clause-read_back
returns-clause-read_back c = written_spells
