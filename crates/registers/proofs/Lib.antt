pub mod Enter
pub mod Table
pub mod Bits
pub mod Entered
