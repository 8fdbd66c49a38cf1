mod CliqueLemmas
mod FaultLemmas
mod LimitLemmas
mod SumLemmas
mod TariffLemmas
mod MeetLemmas
mod CostLemmas
pub mod ValueLemmas
