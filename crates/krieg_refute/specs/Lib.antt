pub mod RefuteAnswers
pub mod Drafts
pub mod Claiming
pub mod Blocking
