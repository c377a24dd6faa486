-- Laws that other crates may cite.
pub mod Marks
pub mod Counting
pub mod Calling
pub mod Hosts
pub mod Tables
pub mod Changing
pub mod Putting
pub mod Rooms
pub mod Granting
pub mod Feeding
pub mod Editions
pub mod Opening
pub mod Wishing
pub mod Ending
pub mod Slowest
pub mod Needed
pub mod Histories
