mod SideLemmas
mod CornerLemmas
