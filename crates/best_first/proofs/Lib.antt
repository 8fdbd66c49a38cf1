pub mod BoundLemmas
pub mod CountLemmas
pub mod CoverLemmas
pub mod FrontLemmas
