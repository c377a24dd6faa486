-- Laws that several proofs, and the crates above, cite.
pub mod Back
pub mod AnswerBack
pub mod Settled
