pub mod AnswerLaws
pub mod PackLaws
