pub mod Following
pub mod Sent
pub mod Transfers
pub mod Making
