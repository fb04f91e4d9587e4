pub mod WordMaps
pub mod Quotients
