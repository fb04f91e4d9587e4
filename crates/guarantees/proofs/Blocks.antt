-- The third property of blocks. Assumes nothing.
pub mod Numbers
pub mod Framing
pub mod Bridge
pub mod Cyclic
pub mod RowSums
pub mod Columns
pub mod Parities
pub mod Turns
pub mod ChangedColumns
pub mod DiagonalBound
pub mod Changes
pub mod Diagonals
