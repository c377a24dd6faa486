pub mod Reading
pub mod Items
pub mod Addresses
pub mod Fields
pub mod Filling
pub mod Rooms
pub mod Shown
pub mod Written
