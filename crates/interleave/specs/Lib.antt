pub mod Interleave
pub mod Calls
pub mod Answers
pub mod Steps
pub mod Properties
pub mod Examples
