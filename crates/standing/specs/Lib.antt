pub mod Lists
pub mod Standing
pub mod Sound
pub mod Making
pub mod Kept
