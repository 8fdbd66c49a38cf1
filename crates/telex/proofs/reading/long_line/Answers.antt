-- The pieces are those of `split`, `position` finds the first that is too long, and its number is one more than its index.
use Rattle.std.proofs.Common.{rules, tests, ◌≡◌}
use Rattle.std.specs.List.{position}
use Rattle.std.proofs.lemmas.Iterator.Search.{position_from_yields_List}
use Rattle.std.proofs.lemmas.Iterator.Splits.{YieldsList-from_slice_split}
use Rattle.telex.specs.Text.{is_line_feed, is_too_long, pieces}
use Rattle.telex.proofs.reading.long_line.Goals as goal

pub returns : goal.returns
returns c =
    let text = c.args.text.now in
    let found : c.position.result ≡ position is_too_long (pieces text) =
    position_from_yields_List is_too_long _ _ c.position.result c.position.ensures.ran
    (YieldsList-from_slice_split _ is_line_feed text c.split.ensures.rest c.split.ensures.done c.split.ensures.closure (λ x b q k. search (rules, tests)))
    (λ x b q k. search (rules, tests)) in
    rw (← found) (search rules)
