pub mod Configuration
pub mod Filling
pub mod Given
