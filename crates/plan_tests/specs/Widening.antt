-- a span, one number more at a time
use Rattle.std.specs.Prelude.{ℤ, Option, Some, None}
use Rattle.std.specs.Int.{int_min, int_max}
use Rattle.hold_reach.specs.declared.span.Span.{Span}

-- the span with one number more
abbrev pub wider_span : Option Span → ℤ → Span
wider_span None x = record { low = x; high = x }
wider_span (Some e) x = record { low = int_min e.low x; high = int_max e.high x }
