use Rattle.std.proofs.Common.{◌≡◌, ◌≤◌, ◌++◌, length, drop}
use Rattle.stop_tasks.specs.StopPaths.{part_of}
use Rattle.stop_tasks.proofs.paths.part_of.Given as goal

-- what was found, and the part of what is left
abbrev pub invariant-loop-position : goal.invariant-loop-position
invariant-loop-position l = record {
  short : length l.part.items ≤ length l.yielded;
  rest : l.part.items ++ part_of (drop (length l.yielded) l.fn.last) l.number (drop (length l.yielded) l.prefix) ≡ part_of l.fn.last l.number l.prefix;
}
