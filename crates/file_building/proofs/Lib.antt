pub mod WrittenLemmas
pub mod StepLemmas
pub mod PartLemmas
pub mod RowLemmas
pub mod BuilderLemmas
pub mod OpeningLemmas
pub mod SortedLemmas
pub mod RankLemmas
pub mod FileLemmas
pub mod EntryLemmas
pub mod HeldLemmas
pub mod WithinLemmas
pub mod BatchLemmas
pub mod RereadLemmas
pub mod BatchingLemmas
pub mod BuiltLemmas
pub mod RecordLemmas
pub mod AlternateLemmas
pub mod DifferLemmas
pub mod ValueLeadLemmas
pub mod UntiedLemmas
pub mod WalkLemmas
pub mod RisingLemmas
pub mod CopiedStepLemmas
pub mod CopiedLemmas
pub mod CopiedEntryLemmas
pub mod CopiedAlternateLemmas
pub mod CopiedOpeningLemmas
pub mod FaultLemmas
mod FillLemmas
mod CopyLemmas
mod MoveLemmas
mod UnitLemmas
pub mod PlaceLemmas
pub mod SourceGivenLemmas
mod BuiltPartsLemmas
mod BuiltUnitLemmas
pub mod PathLemmas
pub mod NewPlaceLemmas
pub mod MoverLemmas
pub mod MovingLemmas
pub mod LeadLemmas
pub mod MovedRowLemmas
pub mod SourceLemmas
pub mod PagesLemmas
