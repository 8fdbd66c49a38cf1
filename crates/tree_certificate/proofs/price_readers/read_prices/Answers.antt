use Rattle.std.proofs.Common.{◌++◌, ◌∷◌, [], ◌∙◌, ap, sym}
use Rattle.std.proofs.lemmas.List.Elements.{All-push, All-same}
use Rattle.text_lines.specs.WordRuns.{run_text}
use Rattle.text_lines.proofs.RunLemmas.{run_text-push}
use Rattle.tree_certificate.specs.TreeText.{price_text, IsSpelledPrice}
use Rattle.tree_certificate.specs.Reading.{holder_word, IsHolder}
use Rattle.tree_certificate.proofs.price_readers.read_prices.Goals as goal

pub loop-price-preserved : goal.loop-price-preserved
loop-price-preserved c =
    let text = price_text (holder_word c.args.holders) in
    let Right = IsSpelledPrice (IsHolder c.args.holders) in
    let old = c.loop-price.prices.items in
    let new = c.push.new.self.items in
    let p = c.in-Some.price in
    let after = c.in-Some.after.now in
    record {
      right = All-same Right new (old ++ p ∷ []) c.in_ok-push.ensures.items (All-push Right old p c.loop-price.invariant.right c.in-Some.ensures.found.0);
      read =
          c.loop-price.invariant.read ∙ ap (λ t. run_text text old ++ t) c.in-Some.ensures.found.1 ∙ sym (run_text-push text old p after)
          ∙ ap (λ ps. run_text text ps ++ after) (sym c.in_ok-push.ensures.items);
      cut = λ from. c.in-Some.ensures.found.2;
    }

pub returns : goal.returns
returns c = record { right = c.loop-price.invariant.right; read = c.loop-price.invariant.read; cut = c.loop-price.invariant.cut; stops = c.in_default.ensures.none }
