-- Laws that several proofs, and the crates above, cite.
pub mod Branches
pub mod Editions
pub mod Rooms
pub mod GivenBack
