-- Laws that several proofs, and the crates above, cite.
pub mod Wanting
pub mod Nexts
pub mod Classed
pub mod Kept
