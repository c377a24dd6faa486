-- Laws that several proofs, and the crates above, cite.
pub mod Search
pub mod Found
pub mod Laws
pub mod Accepts
