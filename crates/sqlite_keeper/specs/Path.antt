-- a keeper of a file, as its callers see it
use Rattle.std.specs.Prelude.{ℕ, List}

-- the file that it keeps rows in, and its failures
pub record FileKeeper : Type 0 where
  -- the path of the file
  pub path : List ℕ
  -- how many calls have failed, up to the last value of a counter
  pub faults : ℕ

-- the keeper of the file at this path, before any call
abbrev pub keeper_at : List ℕ → FileKeeper
keeper_at path = record { path = path; faults = 0 }
