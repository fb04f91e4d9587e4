pub mod Receiver
pub mod Answers
