pub mod SinceLemmas
pub mod SchemaLemmas
pub mod ListLemmas
pub mod VerdictLemmas
pub mod RecordsLemmas
pub mod DifferingLemmas
pub mod ByIndexLemmas
pub mod SalvageLemmas
mod ByPagesLemmas
mod CountedLemmas
