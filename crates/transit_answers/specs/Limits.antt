-- How long files may be.
use Rattle.std.specs.Prelude.{ℕ}

-- a file of a container message or of a load message has at most so many bytes
abbrev pub longest_message : ℕ
longest_message = 1048576
