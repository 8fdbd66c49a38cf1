pub mod PricedCounts
pub mod PricedShort
pub mod PricedBack
pub mod JobLemmas
pub mod PricedJobLemmas
pub mod StopJobLemmas
pub mod TreeJobLemmas
