-- a cabin has one first fault
use Rattle.std.proofs.Common.{◌≡◌, List, refl, ap, sym, ◌∙◌, arith}
use Rattle.payload.specs.PayFault.{first_overfull, IsFirstFault}
use Rattle.payload.specs.declared.figures.PayFault.TheVariants as pay
use Rattle.payload.specs.declared.figures.Zone.{Zone}
use Rattle.payload.specs.declared.figures.ZoneCount.{ZoneCount}
use Rattle.reply_laws.proofs.ChainLemmas.{IsOnce, same-some}

pub pay-once : (zones : List Zone) (cabin : List ZoneCount) → IsOnce (IsFirstFault zones cabin)
pay-once zones cabin (pay.ZoneUnknown n) (pay.ZoneUnknown m) h g = ap pay.ZoneUnknown (h.1 ∙ sym g.1)
pay-once zones cabin (pay.ZoneUnknown n) (pay.ZoneFull m seats) h g = absurd (omega (arith, h.0, g.0))
pay-once zones cabin (pay.ZoneUnknown n) pay.InfantsOverAdults h g = absurd (omega (arith, h.0, g.0))
pay-once zones cabin (pay.ZoneFull n seats) (pay.ZoneUnknown m) h g = absurd (omega (arith, h.0, g.0))
pay-once zones cabin (pay.ZoneFull n seats) (pay.ZoneFull m places) h g =
    let same : (n, seats) ≡ (m, places) = same-some (first_overfull zones cabin) (n, seats) (m, places) h.1 g.1 in
    λ i. pay.ZoneFull (same i).0 (same i).1
pay-once zones cabin (pay.ZoneFull n seats) pay.InfantsOverAdults h g = let one = h.1 in let other = g.1 in absurd (cc)
pay-once zones cabin pay.InfantsOverAdults (pay.ZoneUnknown m) h g = absurd (omega (arith, h.0, g.0))
pay-once zones cabin pay.InfantsOverAdults (pay.ZoneFull m places) h g = let one = h.1 in let other = g.1 in absurd (cc)
pay-once zones cabin pay.InfantsOverAdults pay.InfantsOverAdults h g = refl
