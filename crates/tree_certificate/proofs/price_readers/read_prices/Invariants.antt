use Rattle.std.proofs.Common.{◌≡◌, ◌++◌, length}
use Rattle.text_lines.specs.Cuts.{IsCutAt}
use Rattle.text_lines.specs.WordRuns.{run_text}
use Rattle.tree_certificate.specs.TreeText.{price_text, AreSpelledPrices}
use Rattle.tree_certificate.specs.Reading.{holder_word, IsHolder}
use Rattle.tree_certificate.proofs.price_readers.read_prices.Given as goal

abbrev pub invariant-loop-price : goal.invariant-loop-price
invariant-loop-price l = record {
  right : AreSpelledPrices (IsHolder l.holders) l.prices.items;
  read : l.words ≡ run_text (price_text (holder_word l.holders)) l.prices.items ++ l.rest;
  cut : IsCutAt 32 l.words → IsCutAt 32 l.rest;
}

abbrev pub decreases-loop-price : goal.decreases-loop-price
decreases-loop-price l = length l.rest
