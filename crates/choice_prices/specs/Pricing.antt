-- prices beside the task that they are for, and ticks as the program has them
use Rattle.hold_limits.specs.Problem.{Problem}
use Rattle.hold_reach.specs.declared.span.Span.{Span}
use Rattle.price_trees.specs.Narrowing.{Ticks}
use Rattle.price_trees.specs.Prices.{Prices}

pub record Pricing : Type 0 where
  pub task : Problem
  pub prices : Prices

abbrev pub pricing_of : Problem → Prices → Pricing
pricing_of t v = record { task = t; prices = v }

-- the ticks of the span
abbrev pub ticks_of : Span → Ticks
ticks_of span = record { low = span.low; high = span.high }
