pub mod AnswerText
pub mod Answers
pub mod SessionHeadline
pub mod Sessions
pub mod Laws
