pub mod Number
pub mod Answers
pub mod History
pub mod Window
