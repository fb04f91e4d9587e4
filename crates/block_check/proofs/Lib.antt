pub mod NumberLaws
pub mod Received
pub mod Rows
