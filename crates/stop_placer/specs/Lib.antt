pub mod NextAtStart
pub mod StopAnswers
