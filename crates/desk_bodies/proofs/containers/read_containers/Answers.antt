use Rattle.std.proofs.Common.{◌∙◌, map, ap}
use Rattle.csv.specs.Records.{fields_of}
use Rattle.desk_bodies.proofs.SameRecords.{same_records}
use Rattle.desk_bodies.proofs.containers.read_containers.Goals as goal

pub returns-in_default-clause-refused : goal.returns-in_default-clause-refused
returns-in_default-clause-refused c told items lists =
    let none = rw c.in_default.is at c.in_ok-containers.ensures.none in
    let same = same_records c.args.body.now _ _ c.in_ok-records.ensures lists.records in
    none items lists.spelled lists.few (ap (map fields_of) c.as_slice.ensures.value ∙ same)
