-- what waits in a queue, as keys: ticks and a prefix
use Rattle.std.specs.Prelude.{ℕ, List, map}
use Rattle.std.specs.declared.cmp.Reverse.{Reverse}
use Rattle.hold_limits.specs.Placement.{Key}
use Rattle.path_search.specs.declared.queue.Waiting.{Waiting}

-- the ticks with which a prefix waits, with its numbers
abbrev pub key_of : Waiting → Key
key_of w = (w.bound, w.prefix.items)

abbrev pub key_of_entry : Reverse Waiting → Key
key_of_entry entry = key_of entry.0

-- the prefixes without their ticks
abbrev pub prefixes : List Key → List (List ℕ)
prefixes keys = map (λ (k : Key). k.1) keys
