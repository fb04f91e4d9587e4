pub mod Joining
pub mod Answers
pub mod Laws
