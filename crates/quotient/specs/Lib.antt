pub mod WordMaps
