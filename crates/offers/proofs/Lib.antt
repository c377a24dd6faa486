-- Laws that several proofs, and the crates above, cite.
pub mod OfferLaws
pub mod Places
