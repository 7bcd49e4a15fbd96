pub mod OutputLemmas
pub mod EndLemmas
pub mod FaultLemmas
pub mod ByteLemmas
pub mod FirstLemmas
pub mod BackLemmas
pub mod TakenLemmas
