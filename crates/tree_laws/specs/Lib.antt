pub mod Refutations
pub mod GreatestChoices
