pub mod Questions
pub mod Answers
pub mod NewLibrary
pub mod Lending
pub mod Sessions
pub mod Holding
pub mod Answered
