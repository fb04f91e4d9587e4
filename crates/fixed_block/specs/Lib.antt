pub mod Block
pub mod Answers
pub mod Laws
pub mod Examples
