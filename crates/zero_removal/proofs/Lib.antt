pub mod Removal
pub mod Reader
pub mod Parts
