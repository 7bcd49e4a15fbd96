pub mod Alike
pub mod Ready
