-- Laws that several proofs, and the crates above, cite.
pub mod Grants
pub mod Looking
pub mod Stepped
pub mod Wishes
pub mod Way
