pub mod StayingLemmas
pub mod FaultLemmas
pub mod AdmissibleLemmas
pub mod SortLemmas
pub mod PartLemmas
