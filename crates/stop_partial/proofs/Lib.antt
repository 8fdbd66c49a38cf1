pub mod SectorLemmas
pub mod NextLemmas
