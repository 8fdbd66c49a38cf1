use Rattle.std.proofs.Common.{refl, arith}
use Rattle.flight_row.proofs.ReadLemmas.{releases_told}
use Rattle.flight_row.proofs.reader.next_releases.Goals as goal

pub returns-in-One : goal.returns-in-One
returns-in-One c = record { read = rw c.in-One.is (record { right = c.first_releases.ensures; read = refl; counted = omega arith }); refused = tt }

pub returns-in-Two : goal.returns-in-Two
returns-in-Two c =
    let told = releases_told c.args.stage c.args.lines.now c.next_said.new.lines c.next_said.result c.next_said.ensures.read c.next_said.ensures.counted c.next_said.ensures.refused in
    record { read = rw c.in-Two.is told.0; refused = rw c.in-Two.is told.1 }
