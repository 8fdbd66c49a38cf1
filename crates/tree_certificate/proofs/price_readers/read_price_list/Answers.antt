use Rattle.std.proofs.Common.{◌∙◌, ◌++◌, sym, ap}
use Rattle.tree_certificate.specs.TreeText.{end_word}
use Rattle.tree_certificate.proofs.PriceLemmas.{price_words}
use Rattle.tree_certificate.proofs.ThreeRuns.{some_then, none_then}
use Rattle.tree_certificate.proofs.price_readers.read_price_list.Goals as goal

pub returns-in_default-clause-none : goal.returns-in_default-clause-none
returns-in_default-clause-none c =
    λ list s e. c.in_default.ensures.none list.end
    (price_words c.args.names.now.positions.now c.requires c.cut.result.0.now c.cut.result.1.now list c.cut.ensures.front c.cut.ensures.rest (sym c.cut.ensures.whole ∙ e)).0

pub returns-clause-found : goal.returns-clause-found
returns-clause-found c =
    some_then c.read_three.result c.read_three.ensures.found (λ list read.
    (read.0, c.cut.ensures.whole ∙ (λ i. (c.in-Some.ensures.found ∙ ap end_word (sym read.1)) i ++ read.2 i)))

pub returns-clause-none : goal.returns-clause-none
returns-clause-none c =
    none_then c.read_three.result c.read_three.ensures.none (λ none list s e.
    none list s (price_words c.args.names.now.positions.now c.requires c.cut.result.0.now c.cut.result.1.now list c.cut.ensures.front c.cut.ensures.rest (sym c.cut.ensures.whole ∙ e)).1)
