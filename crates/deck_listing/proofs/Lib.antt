pub mod KeyLemmas
mod FaultLemmas
mod PlaceLemmas
mod TextLemmas
