pub mod Trinomials
