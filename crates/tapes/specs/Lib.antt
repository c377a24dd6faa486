pub mod Events
pub mod Answered
pub mod Histories
pub mod Claims
pub mod Example
