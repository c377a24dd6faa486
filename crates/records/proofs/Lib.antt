-- Laws that several proofs, and the crates above, cite.
pub mod Bytes
pub mod Undots
pub mod SameName
pub mod Classes
pub mod Walk
pub mod Seals
pub mod Rooms
pub mod Zeros
pub mod First
pub mod Stable
pub mod Numbered
pub mod Alike
