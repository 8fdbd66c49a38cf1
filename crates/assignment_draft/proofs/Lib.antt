pub mod FirstPlaces
pub mod NearNumbers
pub mod PriceSteps
pub mod Rests
pub mod SeatedWays
pub mod TreeSteps
