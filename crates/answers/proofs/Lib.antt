-- Laws that several proofs, and the crates above, cite.
pub mod Joined
pub mod Puts
pub mod Saying
