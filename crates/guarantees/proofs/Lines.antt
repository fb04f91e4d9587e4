-- Lines of any kind: the bridge to checked bits, and what a cyclic check detects. Assumes nothing.
pub mod Numbers
pub mod Masks
pub mod Cyclic
