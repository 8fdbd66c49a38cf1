-- limits of what a request tells
use Rattle.flight_history.specs.Asking.{IsPartWithin, IsWithinLimits}
use Rattle.desk_requests.specs.declared.wanted.Wanted.{Wanted}
use Rattle.desk_requests.specs.declared.wanted.Wanted.TheVariants.{Set, Plan, Best}
use Rattle.desk_requests.specs.declared.asked.Asked.{Asked}
use Rattle.desk_requests.specs.declared.asked.Asked.TheVariants as asked
use Rattle.std.specs.Prelude.{◌≤◌}

-- the figures are within the limits of an office, and a budget and looks within those of a search
abbrev pub IsWithin : Wanted → Type 0
IsWithin (Set told) = IsPartWithin told
IsWithin (Plan budget) = (1 ≤ budget) × (budget ≤ 5000)
IsWithin (Best looks) = (1 ≤ looks) × (looks ≤ 1000000)
IsWithin _ = Unit {0}

-- so is what is asked
abbrev pub IsLawful : Asked → Type 0
IsLawful (asked.Entry request) = IsWithinLimits request
IsLawful (asked.Plan key edition budget) = (1 ≤ budget) × (budget ≤ 5000)
IsLawful (asked.Best key edition looks) = (1 ≤ looks) × (looks ≤ 1000000)
