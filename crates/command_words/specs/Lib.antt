pub mod CommandLine
pub mod Asks
pub mod Commands
