pub mod Replay
pub mod Answers
pub mod Calls
pub mod Agreement
