use Rattle.std.proofs.Common.{◌≡◌, ◌++◌, take, map}
use Rattle.text_lines.specs.Lines.{text_of}
use Rattle.ldm_cpm.proofs.Texts.{place_line}
use Rattle.ldm_cpm.proofs.cpm_writer.push_places.Given as goal

abbrev pub invariant-loop-place : goal.invariant-loop-place
invariant-loop-place l = l.out ≡ l.initial.out ++ text_of (map (place_line l.destination) (take l.place-index l.places))
