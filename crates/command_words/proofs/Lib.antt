pub mod NumberLemmas
pub mod MetLemmas
pub mod AskLemmas
pub mod FlagLemmas
pub mod ShapeLemmas
pub mod ArgLemmas
