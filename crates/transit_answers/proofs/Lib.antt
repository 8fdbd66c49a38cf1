pub mod FlightLemmas
pub mod AnswerLemmas
