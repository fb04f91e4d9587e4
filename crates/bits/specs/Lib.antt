pub mod Strings
pub mod Bytes
pub mod Differences
pub mod Calls
