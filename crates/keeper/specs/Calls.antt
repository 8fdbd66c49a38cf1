-- the calls of a keeper in memory, some of which are to fail
use Rattle.std.specs.Prelude.{ℕ, ◌+◌, ◌-◌, ◌^◌, min, List, Contains}
use Rattle.keeper.specs.declared.row.KeptRow.{KeptRow}

-- a counter raised by one, up to its last value
abbrev pub one_more : ℕ → ℕ
one_more count = min (count + 1) (2 ^ 64 - 1)

-- the calls of one kind: the numbers of those that are to fail, counted from 1, and how many have been made
pub record Calls : Type 0 where
  pub fail : List ℕ
  pub made : ℕ

-- the next call is to fail
abbrev pub IsToFail : Calls → Type 0
IsToFail calls = Contains calls.fail (one_more calls.made)

-- after one more call
abbrev pub called : Calls → Calls
called calls = record calls { made = one_more calls.made }

-- no call has been made yet
abbrev pub no_calls : List ℕ → Calls
no_calls fail = record { fail = fail; made = 0 }

-- the rows of a keeper in memory, its calls, and how many have failed
pub record Store : Type 0 where
  pub rows : List KeptRow
  pub loads : Calls
  pub commits : Calls
  pub faults : ℕ
