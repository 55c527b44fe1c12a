pub mod ServedLaws
pub mod ReplyLaws
mod AnswerLaws
