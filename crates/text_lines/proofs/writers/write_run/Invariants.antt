use Rattle.std.proofs.Common.{◌≡◌, ◌++◌, take}
use Rattle.text_lines.specs.WordRuns.{run_text}
use Rattle.text_lines.proofs.writers.write_run.Given as goal

abbrev pub invariant-loop-entry : goal.invariant-loop-entry
invariant-loop-entry g l = l.out ≡ l.initial.out ++ run_text (g.W.EntryWriter.text l.writer) (take l.entry-index l.entries)
