-- A link in memory.
use Rattle.load_io.specs.MemorySink.{Output}
use Rattle.load_io.specs.MemorySource.{Input}

-- the two directions of a link in memory
pub record Directions : Type 0 where
  -- what can still be read from it
  pub input : Input
  -- what was written to it
  pub output : Output
