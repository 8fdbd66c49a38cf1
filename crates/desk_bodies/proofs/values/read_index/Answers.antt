use Rattle.std.proofs.Common.{rules}
use Rattle.aircraft_file.proofs.IndexLemmas.{index_read}
use Rattle.desk_bodies.proofs.values.read_index.Goals as goal

pub returns-clause-value : goal.returns-clause-value
returns-clause-value c =
    let read = index_read c.read_ticks5.result c.in_ok-read_text.field-0.now c.read_ticks5.ensures.ok c.read_ticks5.ensures.read_back in
    search rules
