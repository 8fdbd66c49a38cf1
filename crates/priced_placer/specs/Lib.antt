pub mod PriceNear
pub mod Waits
pub mod Answers
pub mod AnswerText
