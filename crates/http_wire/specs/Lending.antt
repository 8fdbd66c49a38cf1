-- What a wire is once its request is no longer borrowed.
use Rattle.std.specs.Borrow.{Fml, MutBor}
use Rattle.std.specs.Io.BufRead.{Rests}
use Rattle.http_wire.specs.Hearing.{Hearing}
use Rattle.http_wire.specs.contracts.wire.Wire.{the_row}

-- P holds of the wire after the borrow
abbrev pub WireRests : MutBor Hearing → (Hearing → Type 0) → Fml
WireRests wire P = Rests the_row wire P
