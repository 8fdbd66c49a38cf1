use Rattle.price_trees.proofs.PriceLaw.{price-law}
use Rattle.price_trees.proofs.laws.price_laws.Goals as goal

pub returns : goal.returns
returns c = record { value = price-law }
