-- a task with a certificate, as contracts see them
use Rattle.hold_limits.specs.Problem.{Problem}
use Rattle.certificate.specs.declared.parts.Certificate.{Certificate}

-- with a certificate of any kind
pub record CertifiedBy (C : Type 0) : Type 0 where
  pub task : Problem
  pub certificate : C

abbrev pub Certified : Type 0
Certified = CertifiedBy Certificate

abbrev pub certified : {C : Type 0} → Problem → C → CertifiedBy C
certified t c = record { task = t; certificate = c }
