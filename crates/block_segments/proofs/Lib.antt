pub mod KeptLaws
pub mod Folding
pub mod Copying
