-- Laws that several proofs, and the crates above, cite.
pub mod EventLaws
pub mod Brought
