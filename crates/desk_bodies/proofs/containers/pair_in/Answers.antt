use Rattle.csv.specs.Records.{fields_of}
use Rattle.desk_bodies.proofs.RecordLemmas.{two_fields, no_first, no_second, third}
use Rattle.desk_bodies.proofs.containers.pair_in.Goals as goal

pub returns-in_err-first-clause-none : goal.returns-in_err-first-clause-none
returns-in_err-first-clause-none c =
    rw c.from_residual.ensures (λ a b is. no_first (fields_of c.args.record.now) a b c.in_err-first.ensures.value is)

pub returns-in_err-second-clause-none : goal.returns-in_err-second-clause-none
returns-in_err-second-clause-none c =
    rw c.from_residual-in_err-second.ensures (λ a b is. no_second (fields_of c.args.record.now) a b c.in_err-second.ensures.value is)

pub returns-in-Some-clause-none : goal.returns-in-Some-clause-none
returns-in-Some-clause-none c a b is = third (fields_of c.args.record.now) a b c.in-Some.field-0.now c.in-Some.ensures.value is

pub returns-in-None-clause-some : goal.returns-in-None-clause-some
returns-in-None-clause-some c =
    two_fields (fields_of c.args.record.now) c.in_ok-first.first.now c.in_ok-second.second.now c.in_ok-first.ensures.value c.in_ok-second.ensures.value c.in-None.ensures.value
