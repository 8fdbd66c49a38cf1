use Rattle.std.proofs.Common.{◌≡◌, ◌++◌, ℕ, List, length}
use Rattle.text_lines.specs.WordRuns.{run_text, name_text}
use Rattle.position_set.specs.Sets.{members}
use Rattle.tree_certificate.proofs.line_writers.push_names.Given as goal

abbrev pub invariant-loop-number : goal.invariant-loop-number
invariant-loop-number l = record {
  done : List ℕ;
  split : members l.initial.rest ≡ done ++ members l.rest;
  written : l.out ≡ l.initial.out ++ run_text (name_text l.hold.positions) done;
}

abbrev pub decreases-loop-number : goal.decreases-loop-number
decreases-loop-number l = length (members l.rest)
