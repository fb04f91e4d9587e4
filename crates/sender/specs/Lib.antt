pub mod Ring
pub mod Sender
pub mod Sending
pub mod Answers
pub mod Right
pub mod History
