use Rattle.std.proofs.Common.{◌≡◌, ◌++◌, ℕ, List, map, length, All}
use Rattle.text_lines.specs.Cuts.{IsCutAt}
use Rattle.text_lines.specs.Names.{IsNamed}
use Rattle.text_lines.specs.Names.{byte_of}
use Rattle.text_lines.specs.WordRuns.{run_text, name_text}
use Rattle.problem_text.proofs.limit_readers.read_positions.Given as goal

abbrev pub invariant-loop-rest : goal.invariant-loop-rest
invariant-loop-rest l = record {
  said : List ℕ;
  kept : l.numbers.items ≡ map byte_of said;
  named : All (IsNamed l.names.positions.now) said;
  read : l.words ≡ run_text (name_text l.names.positions.now) said ++ l.rest;
  cut : IsCutAt 32 l.rest;
}

abbrev pub decreases-loop-rest : goal.decreases-loop-rest
decreases-loop-rest l = length l.rest
