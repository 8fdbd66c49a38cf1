mod RefutationLemmas
mod OneRefutation
mod GreatestLemmas
