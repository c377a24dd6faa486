pub mod Https
pub mod State
pub mod Changes
