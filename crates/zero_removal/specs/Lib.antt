pub mod Removal
pub mod Reader
