use Rattle.std.proofs.Common.{rules}
use Rattle.aircraft_file.proofs.SpellingLemmas.{name_read}
use Rattle.aircraft_file.proofs.values.read_name.Goals as goal

pub returns : goal.returns
returns c =
    let read = name_read c.read.result c.as_bytes.result.now c.read.ensures.some c.read.ensures.none in
    search rules
