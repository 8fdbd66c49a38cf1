pub mod AnswerLemmas
pub mod BoundLemmas
pub mod CountLemmas
pub mod QueueLemmas
pub mod SearchLemmas
mod TickLemmas
