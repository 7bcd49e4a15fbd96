pub mod EntryLemmas
pub mod EntryRestLemmas
pub mod BehindLemmas
pub mod DescriptionLemmas
pub mod DivisionLemmas
pub mod DivisionRestLemmas
pub mod EntriesLemmas
