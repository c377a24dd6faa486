pub mod Output
pub mod Steps
