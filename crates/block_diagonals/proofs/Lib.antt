pub mod Turning
pub mod Pieces
pub mod TwoCharacters
