use Rattle.certificate.specs.CertificateText.{start_line}
use Rattle.certificate.proofs.AfterStart.{refused_once, states_something}
use Rattle.certificate.proofs.EvidenceParts.{evidence, is_read_once, empty, empty_is}
use Rattle.certificate.proofs.ReadLemmas.{start_plain, spelled_once, spelled_has_no_fault}
use Rattle.certificate.proofs.laws.reading_laws.Goals as goal

pub returns-clause-one_certificate : goal.returns-clause-one_certificate
returns-clause-one_certificate c = spelled_once

pub returns-clause-no_fault : goal.returns-clause-no_fault
returns-clause-no_fault c = spelled_has_no_fault

pub returns-clause-one_fault : goal.returns-clause-one_fault
returns-clause-one_fault c = λ ps names. refused_once start_line start_plain (evidence ps) (is_read_once ps names)

pub returns-clause-some_answer : goal.returns-clause-some_answer
returns-clause-some_answer c = λ ps. states_something start_line (evidence ps) empty (empty_is ps)
