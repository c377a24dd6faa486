pub mod Input
pub mod Verdicts
