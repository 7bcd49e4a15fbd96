pub mod TextLemmas
pub mod RoomLemmas
pub mod ItemLemmas
pub mod ShownLemmas
pub mod TextReadingLemmas
pub mod QuotedLemmas
pub mod CellLemmas
pub mod NameLemmas
pub mod ValueLemmas
pub mod ValuesLemmas
pub mod LineLemmas
pub mod WholeLemmas
mod MistakeLemmas
mod ColumnLemmas
mod LongLemmas
mod FormLemmas
mod PaddedLemmas
mod PaddedLineLemmas
mod PaddedValueLemmas
