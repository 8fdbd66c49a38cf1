use Rattle.std.proofs.Common.{◌≡◌, ◌∙◌, sym}
use Rattle.tree_certificate.specs.Listed.{listed_prices}
use Rattle.choice_prices.specs.Listing.{price_fault}
use Rattle.choice_prices.proofs.FaultLemmas.{guards-list}
use Rattle.choice_prices.proofs.price_faults.price_fault.Goals as goal

pub returns-clause-meaning : goal.returns-clause-meaning
returns-clause-meaning c =
    let value : c.fault_of.result ≡ price_fault c.args.task.now.hold c.args.cliques (listed_prices c.args.list.now) = rw c.hold.ensures.value at c.fault_of.ensures in
    let guards = guards-list c.args.task.now.hold c.args.cliques (listed_prices c.args.list.now) in
    (λ none. guards.0 (sym value ∙ none), λ priced. value ∙ guards.1 priced)
