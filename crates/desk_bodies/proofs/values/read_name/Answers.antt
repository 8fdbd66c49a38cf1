use Rattle.std.proofs.Common.{rules}
use Rattle.aircraft_file.proofs.SpellingLemmas.{name_read}
use Rattle.desk_bodies.proofs.values.read_name.Goals as goal

pub returns-clause-value : goal.returns-clause-value
returns-clause-value c =
    let read = name_read c.read.result c.in_ok-read_text.field-0.now c.read.ensures.some c.read.ensures.none in
    search rules
