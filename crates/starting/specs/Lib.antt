pub mod Surveys
pub mod Noting
pub mod Starting
