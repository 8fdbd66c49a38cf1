use Rattle.std.proofs.Common.{rules}
use Rattle.aircraft_file.proofs.IndexLemmas.{index_read}
use Rattle.aircraft_file.proofs.values.read_index.Goals as goal

pub returns-clause-value : goal.returns-clause-value
returns-clause-value c =
    let read = index_read c.read_ticks5.result c.as_bytes.result.now c.read_ticks5.ensures.ok c.read_ticks5.ensures.read_back in
    search rules
