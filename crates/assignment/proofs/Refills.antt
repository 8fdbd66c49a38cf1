-- a list that was written through a slice of all its entries
use Rattle.std.proofs.Common.{◌≡◌, List, drop, length, ◌∙◌, arith}
use Rattle.std.specs.List.{refill}
use Rattle.std.proofs.Math.Seq.{take-length}
use Rattle.std.proofs.lemmas.List.{take-append-le}

pub refill-whole : {X : Type 0} (xs ws : List X) → length ws ≡ length xs → refill (length xs) xs ws ≡ ws
refill-whole xs ws same = rw (← same) (take-append-le (length ws) ws (drop (length ws) xs) (omega arith) ∙ take-length ws)
