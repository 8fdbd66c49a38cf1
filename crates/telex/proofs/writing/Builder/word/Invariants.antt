use Rattle.std.proofs.Common.{◌≡◌, ◌+◌, ◌-◌, ◌≤◌, ◌++◌, length, take}
use Rattle.telex.proofs.writing.Builder.word.Given as goal

abbrev pub invariant-loop-byte : goal.invariant-loop-byte
invariant-loop-byte l = record {
  room : l.self-inside.bytes.len + (length l.word - l.byte-index) ≤ l.self-inside.bytes.cap;
  written : l.self-inside.bytes.items ≡ l.initial.self-inside.bytes.items ++ take l.byte-index l.word;
}
