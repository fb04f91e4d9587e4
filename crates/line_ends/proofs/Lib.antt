pub mod Eight
pub mod Marked
