pub mod ClearRuns
pub mod Pieces
