use Rattle.ldm_cpm.proofs.CpmReading.{ArePlaces}
use Rattle.ldm_cpm.proofs.cpm_reader.read_places.Given as goal

abbrev pub invariant-loop-line : goal.invariant-loop-line
invariant-loop-line l = ArePlaces l.fn.lines l.line-iterator l.places.items
