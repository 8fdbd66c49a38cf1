-- An input in memory.
use Rattle.std.specs.Prelude.{ℕ, List, length, min}
use Rattle.load_io.specs.Calls.{Calls}

-- what an input in memory still has, how much a read takes from it, and its calls
pub record Input : Type 0 where
  -- the bytes that no read has moved out yet, in order
  pub left : List ℕ
  -- how many bytes one read moves at most
  pub most : ℕ
  -- its reads
  pub calls : Calls

-- how many bytes a read moves into a buffer with this much room
abbrev pub moved_into : Input → ℕ → ℕ
moved_into input room = min room (min input.most (length input.left))
