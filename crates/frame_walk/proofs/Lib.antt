pub mod Passing
pub mod Register
pub mod Flags
