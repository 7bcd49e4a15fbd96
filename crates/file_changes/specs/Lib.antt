pub mod Changes
pub mod InPages
pub mod Contents
pub mod Steps
pub mod Adding
pub mod Old
pub mod Removing
pub mod Replacing
