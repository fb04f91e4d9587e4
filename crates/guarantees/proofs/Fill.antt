-- Fill ahead of the start: lines taken before, and lines with fill. Assumes nothing.
pub mod Before
pub mod OneMore
pub mod Ahead
