pub mod Told
pub mod Tabled
