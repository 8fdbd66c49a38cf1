pub mod AnswerFormLemmas
pub mod GoodLemmas
pub mod NearLemmas
pub mod ReachLemmas
