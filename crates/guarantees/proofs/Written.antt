-- A written block reads back. Assumes nothing.
pub mod Walk
pub mod Line
pub mod Parts
pub mod Parities
pub mod Lengths
pub mod Block
