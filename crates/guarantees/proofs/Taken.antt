-- A block that was taken writes back. Assumes nothing.
pub mod Questions
pub mod Characters
pub mod Unfilled
pub mod UnfilledText
pub mod UnfilledBlock
pub mod UnfilledLine
pub mod Block
