-- Laws that other crates may cite.
pub mod Numbers
pub mod Reading
pub mod Plays
pub mod Places
pub mod Checked
pub mod Rooms
pub mod Sizes
pub mod Histories
pub mod Standing
pub mod Written
pub mod Bounded
pub mod Joined
pub mod Cut
pub mod Whole
pub mod Example
