-- Laws that several proofs, and the crates above, cite.
pub mod Lookup
pub mod Tiers
pub mod Shapes
pub mod Appending
pub mod Sorted
pub mod Priorities
pub mod Bounds
pub mod Whole
pub mod Laws
pub mod Endpoints
pub mod RecordOrder
