use Rattle.std.proofs.Common.{◌≡◌, ◌++◌, length, All}
use Rattle.text_lines.specs.Cuts.{IsCutAt}
use Rattle.problem_text.specs.WordRuns.{fit_text, IsSpelledFit}
use Rattle.text_lines.specs.WordRuns.{run_text}
use Rattle.problem_text.proofs.position_reader.read_fits.Given as goal

abbrev pub invariant-loop-rest : goal.invariant-loop-rest
invariant-loop-rest l = record {
  read : l.words ≡ run_text fit_text l.fits.items ++ l.rest;
  spelled : All IsSpelledFit l.fits.items;
  cut : IsCutAt 32 l.rest;
}

abbrev pub decreases-loop-rest : goal.decreases-loop-rest
decreases-loop-rest l = length l.rest
