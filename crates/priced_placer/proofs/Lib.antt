pub mod TightBounds
pub mod LookLemmas
pub mod NearLaws
pub mod PricedCuts
pub mod PriceNearLemmas
pub mod GoodLemmas
