pub mod Edges
pub mod Outline
pub mod Refusal
