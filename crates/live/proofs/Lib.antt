-- Laws that several proofs, and the crates above, cite.
pub mod Calling
pub mod Feeding
pub mod Lending
pub mod Replayed
pub mod Spelling
