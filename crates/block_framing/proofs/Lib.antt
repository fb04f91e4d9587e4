pub mod FramingLaws
pub mod HeaderWalk
pub mod KeptBySign
pub mod Lengths
pub mod OneToOne
pub mod Reading
pub mod TextWalk
pub mod Turns
