pub mod StatisticsLines
pub mod Statistics
pub mod StatisticsListing
pub mod SchemaLines
pub mod SchemaListing
pub mod Differences
pub mod Comparing
