use Rattle.std.proofs.Common.{List, refl, subst}
use Rattle.payload.specs.PayFault.{IsFirstFault}
use Rattle.payload.specs.declared.figures.Zone.{Zone}
use Rattle.last_minute.proofs.FitLemmas.{cabin-fits_told}
use Rattle.last_minute.proofs.issuing.cabin_of.Goals as goal

pub cabin_load-requires : goal.cabin_load-requires
cabin_load-requires c =
    cabin-fits_told c.args.a.now c.args.f.now c.zones.result.now c.averages.result.now c.zones.ensures.lawful c.requires.limits c.zones.ensures.value c.averages.ensures.value

pub unreachable-requires : goal.unreachable-requires
unreachable-requires c =
    let fault = c.in-Err.field-0 in
    c.requires.cabin fault (subst (λ (z : List Zone). IsFirstFault z c.args.f.now.cabin fault) c.zones.ensures.value ((c.in-Err.ensures.refused fault).0 refl))
