use Rattle.std.proofs.Common.{◌≡◌, ◌∙◌, sym}
use Rattle.position_set.specs.Sets.{members}
use Rattle.choice_prices.specs.Listing.{is_clique}
use Rattle.choice_prices.proofs.CliqueLemmas.{clique-Decides}
use Rattle.choice_prices.proofs.cliques.is_clique.Goals as goal

pub returns-clause-meaning : goal.returns-clause-meaning
returns-clause-meaning c =
    let value : c.is_clique_of.result ≡ is_clique c.args.task.now.hold (members c.args.set) = rw c.hold.ensures.value at c.is_clique_of.ensures in
    let decides = clique-Decides c.args.task.now (members c.args.set) in
    (λ is. decides.0 (sym value ∙ is), λ clique. value ∙ decides.1 clique)
