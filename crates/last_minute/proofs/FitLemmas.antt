-- a cabin that has a zone for each count has a load
use Rattle.std.proofs.Common.{◌≡◌, List, subst, sym}
use Rattle.payload.specs.Load.{FitsLoad}
use Rattle.payload.specs.PayFault.{HasZones}
use Rattle.payload.specs.declared.figures.Averages.{Averages}
use Rattle.payload.specs.declared.figures.Zone.{Zone}
use Rattle.aircraft_file.specs.Craft.{Craft}
use Rattle.aircraft_file.specs.Lawful.{IsLawfulCraft}
use Rattle.trim.specs.declared.figures.Figures.{Figures}
use Rattle.trim.specs.Limits.{KeepsLimits}
use Rattle.trim.proofs.CabinLemmas.{cabin-fits}

pub cabin-fits_told : (a : Craft) (f : Figures) (zones : List Zone) (averages : Averages) → IsLawfulCraft a → KeepsLimits f → zones ≡ a.zones → averages ≡ a.averages
    → HasZones zones f.cabin → FitsLoad averages f.cabin
cabin-fits_told a f zones averages lawful keeps zones_are averages_are has =
    subst (λ (v : Averages). FitsLoad v f.cabin) (sym averages_are) (cabin-fits a f lawful keeps (subst (λ (z : List Zone). HasZones z f.cabin) zones_are has))
