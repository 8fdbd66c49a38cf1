use Rattle.priced_placer.proofs.NearLaws.{price_near-near, price_near-few}
use Rattle.priced_placer.proofs.laws.price_near_laws.Goals as goal

pub returns : goal.returns
returns c = record {
  near = price_near-near;
  fewer = price_near-few;
}
