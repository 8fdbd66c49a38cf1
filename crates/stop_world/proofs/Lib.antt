pub mod WideLemmas
pub mod SectorLemmas
pub mod LeastLemmas
pub mod WorldLemmas
