use Rattle.std.proofs.Common.{◌≡◌, ◌++◌, length}
use Rattle.text_lines.specs.Cuts.{IsCutAt}
use Rattle.text_lines.specs.WordRuns.{run_text}
use Rattle.priced_certificate.specs.PricedText.{price_word, AreSpelledPrices}
use Rattle.priced_certificate.proofs.price_readers.read_prices.Given as goal

abbrev pub invariant-loop-price : goal.invariant-loop-price
invariant-loop-price g l = record {
  right : AreSpelledPrices g.row.N l.prices.items;
  read : l.words ≡ run_text price_word l.prices.items ++ l.rest;
  cut : IsCutAt 32 l.words → IsCutAt 32 l.rest;
}

abbrev pub decreases-loop-price : goal.decreases-loop-price
decreases-loop-price g l = length l.rest
