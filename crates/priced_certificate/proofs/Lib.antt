pub mod PriceWords
pub mod PriceRuns
pub mod EndLines
pub mod CutLines
pub mod FailSteps
pub mod PricedParts
pub mod WriterLemmas
