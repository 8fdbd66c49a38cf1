use Rattle.editions.specs.Acts.{key_asked}
use Rattle.editions.proofs.AskLemmas.{plan-at}
use Rattle.editions.proofs.PlaceLemmas.{within-place}
use Rattle.editions.proofs.asking.act_at.Goals as goal

pub is_same-same-requires : goal.is_same-same-requires
is_same-same-requires c = within-place c.args.flights.now.flights (key_asked c.args.request) c.args.place c.requires

pub returns : goal.returns
returns c = λ fleet kept.
    let is = plan-at fleet c.args.flights.now.flights (key_asked c.args.request) c.args.place c.args.request kept c.requires in
    record {
      same = c.is_same-same.result;
      exactly = (λ same. is.0 (c.is_same-same.ensures.0 same), λ has. c.is_same-same.ensures.1 (is.1 has));
      asks = c.act_of.ensures;
    }
