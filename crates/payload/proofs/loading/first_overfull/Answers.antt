-- the chain gives the zones of the cabin, numbered, and `find` the first that is overfull
use Rattle.std.proofs.Common.{rules, tests, ◌+◌}
use Rattle.std.proofs.lemmas.Iterator.{YieldsList-from_slice, YieldsList-from_zip}
use Rattle.std.proofs.lemmas.Iterator.Consumers.{YieldsList-from_enumerate}
use Rattle.std.proofs.lemmas.Iterator.Search.{find_from_yields_List}
use Rattle.payload.specs.PayFault.{is_overfull}
use Rattle.payload.proofs.OptionLemmas.{option_map-from_map}
use Rattle.payload.proofs.loading.first_overfull.Goals as goal

pub returns : goal.returns
returns c =
    option_map-from_map _ _ (λ z. (z.0 + 1, z.1.1.capacity)) c.find.result c.map.result _
    (find_from_yields_List (λ z. is_overfull z.1.0 z.1.1) c.find.new.self _ c.find.result c.find.ensures.ran
    (YieldsList-from_enumerate (YieldsList-from_zip (YieldsList-from_slice c.args.counts.now cc) (YieldsList-from_slice c.args.zones.now cc)) (cc))
    (λ x b q k. search (rules, tests)))
    c.map.ensures.cases
    (λ x y k. search (rules, tests))
