pub mod Events
pub mod MemLaws
pub mod CrashImages
pub mod MemFiles
pub mod MemShelves
pub mod Fuses
pub mod FusedCalls
pub mod MemoryPages
