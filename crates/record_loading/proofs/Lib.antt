pub mod HeaderLemmas
pub mod WrittenLemmas
pub mod RealLemmas
pub mod GoingLemmas
pub mod LoadLemmas
pub mod LoadedLemmas
pub mod SameLemmas
pub mod OfSchemaLemmas
mod PassingLemmas
mod PassedLemmas
mod PlaceLemmas
mod UsualLemmas
mod MistakeLemmas
mod ReadingLemmas
mod LineWrittenLemmas
pub mod KeptLemmas
mod RisingWriteLemmas
mod BuiltLoadLemmas
mod AgainLemmas
mod LineRecordLemmas
mod TriedLemmas
pub mod SortedTextLemmas
pub mod SortedLoadLemmas
