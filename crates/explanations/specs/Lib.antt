pub mod Explained
pub mod Tables
