pub mod History
pub mod Claims
pub mod Facts
pub mod Race
pub mod Edition
pub mod Demand
pub mod Slowest
pub mod Needed
