pub mod FileControlEntry
pub mod RecordLength
pub mod FileDescription
pub mod Divisions
