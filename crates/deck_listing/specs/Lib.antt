pub mod Verbs
pub mod Lines
pub mod Listing
pub mod Place
pub mod Text
pub mod Told
