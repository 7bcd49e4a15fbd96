pub mod ReadingLemmas
pub mod CallLemmas
pub mod DiskLemmas
pub mod WithinLemmas
pub mod FileLemmas
