-- The headers still to come give the answer for all of them.
use Rattle.std.proofs.Common.{◌≡◌, drop}
use Rattle.http_wire.specs.Fields.{is_closing}
use Rattle.http_wire.specs.Places.{fields_at}
use Rattle.http_wire.proofs.fields.is_closing.Given as goal

abbrev pub invariant-loop-header : goal.invariant-loop-header
invariant-loop-header l = is_closing (fields_at l.heard (drop l.header-index l.headers)) ≡ is_closing (fields_at l.heard l.headers)
