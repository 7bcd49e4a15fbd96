pub mod Description
pub mod InOrder
pub mod FieldPlaces
pub mod Checks
pub mod Whole
pub mod Described
pub mod NoFiles
pub mod FirstFault
