pub mod Framings
pub mod Runs
pub mod Walks
