pub mod RankLemmas
pub mod EachLemmas
pub mod RisingLemmas
pub mod ApartLemmas
pub mod ListedLemmas
pub mod ReadingLemmas
pub mod WorldLemmas
pub mod StepLemmas
pub mod ListingLemmas
pub mod FileLemmas
pub mod FileListLemmas
pub mod AsideLemmas
mod CheckedLemmas
