pub mod Wanted
pub mod Scans
pub mod Stored
pub mod Units
pub mod ListWorld
pub mod HeldCalls
