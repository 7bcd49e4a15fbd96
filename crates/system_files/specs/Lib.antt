pub mod Held
pub mod Front
