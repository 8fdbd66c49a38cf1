-- A door at a port.
use Rattle.std.specs.Prelude.{ℕ, ℤ, pos, ◌+◌, List, [], ◌∷◌, Contains, IsSomeAnd}
use Rattle.std.specs.IoError.{raw_os_error}
use Rattle.std.specs.declared.io.Error.{Error}
use Rattle.load_io.specs.Calls.{one_more}

-- a door at a port: its links and its failures
pub record Gate : Type 0 where
  -- the port
  pub port : ℕ
  -- how many links have come in
  pub came : ℕ
  -- how many of them were not handed back yet
  pub lent : ℕ
  -- how many calls have failed, up to the last value of a counter
  pub faults : ℕ

-- so many links come in at a door; then it is closed
abbrev pub most_links : ℕ
most_links = 1000000

-- the door at this port, before any call
abbrev pub gate_at : ℕ → Gate
gate_at port = record { port = port; came = 0; lent = 0; faults = 0 }

-- one more link came in
abbrev pub after_link : Gate → Gate
after_link gate = record gate { came = gate.came + 1; lent = gate.lent + 1 }

-- one more call failed
abbrev pub after_fault : Gate → Gate
after_fault gate = record gate { faults = one_more gate.faults }

-- the system's error numbers after which a later try may succeed: the connection was reset or given up before it was
-- taken (104, 103), there was no descriptor for it (24 in the program, 23 in the system), there was no memory for it
-- (12, 105), or the call was interrupted (4)
abbrev pub passing_codes : List ℤ
passing_codes = pos 4 ∷ pos 12 ∷ pos 23 ∷ pos 24 ∷ pos 103 ∷ pos 104 ∷ pos 105 ∷ []

-- a later try may succeed
abbrev pub Passes : Error → Type 0
Passes error = IsSomeAnd (raw_os_error error) (Contains passing_codes)
