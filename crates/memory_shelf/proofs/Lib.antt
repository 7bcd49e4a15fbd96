pub mod CrashLemmas
pub mod MemLemmas
pub mod CrashImageLemmas
pub mod MemFilesLemmas
