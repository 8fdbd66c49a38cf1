use Rattle.std.proofs.Common.{refl}
use Rattle.hold_reach.proofs.ViableLemmas.{band-in_order}
use Rattle.best_first.proofs.CoverLemmas.{found-viable}
use Rattle.priced_placer.specs.PriceNear.{HasTightBound}
use Rattle.priced_placer.specs.Waits.{MayWaitTightly}
use Rattle.priced_placer.proofs.TightBounds.{tight-bounds}
use Rattle.priced_placer.proofs.GoodLemmas.{near-found, good-found}
use Rattle.priced_placer.proofs.answer.certificate_of.Goals as goal

pub with_prices-requires : goal.with_prices-requires
with_prices-requires c =
    let t = c.args.task.now in
    found-viable t (HasTightBound t) (MayWaitTightly t) (tight-bounds t (band-in_order t c.items-lawful.ensures.lawful)) c.args.found c.requires

pub returns-clause-near : goal.returns-clause-near
returns-clause-near c =
    let t = c.args.task.now in
    near-found t c.args.found _ c.requires
    (record { claim = refl; cuts = rw c.from.ensures c.in_ok-cuts.ensures.prefixes; priced = rw c.from.ensures c.in_ok-cuts.ensures.priced; expanded = refl })

pub returns-clause-good : goal.returns-clause-good
returns-clause-good c =
    let t = c.args.task.now in
    good-found t c.args.found _ c.requires
    (record { claim = refl; cuts = rw c.from.ensures c.in_ok-cuts.ensures.prefixes; priced = rw c.from.ensures c.in_ok-cuts.ensures.priced; expanded = refl })
    (band-in_order t c.items-lawful.ensures.lawful)
