-- Laws that several proofs, and the crates above, cite.
pub mod BitLaws
pub mod BoolLaws
pub mod Cases
pub mod NameLaws
pub mod NameWalk
pub mod NumberLaws
pub mod PutLaws
pub mod RoundTrip
pub mod Settled
pub mod Shortest
pub mod Steps
pub mod Undotted
pub mod WriteLaws
