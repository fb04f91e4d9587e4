pub mod Fold
pub mod Content
