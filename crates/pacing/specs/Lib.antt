pub mod Ids
pub mod Pacing
