pub mod Stuffing
pub mod Frame
pub mod Write
pub mod Read
pub mod Answers
