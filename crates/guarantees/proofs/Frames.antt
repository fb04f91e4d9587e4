-- Frames: what the properties rest on, and their round trip. Assumes nothing.
pub mod Unstuffing
pub mod Numbers
pub mod Framing
pub mod Bridge
pub mod Cyclic
pub mod Taken
pub mod RoundTrip
