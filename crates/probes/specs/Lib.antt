pub mod Words
pub mod Flat
