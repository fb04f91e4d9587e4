pub mod Checks
pub mod Methods
