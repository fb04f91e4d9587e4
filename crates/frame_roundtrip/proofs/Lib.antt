pub mod Returns
pub mod Comparing
