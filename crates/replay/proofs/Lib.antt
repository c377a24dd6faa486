-- Laws that several proofs, and the crates above, cite.
pub mod Answering
pub mod Checking
pub mod Framed
pub mod Settled
pub mod Steps
pub mod Stored
pub mod Taped
pub mod Turning
pub mod Wished
