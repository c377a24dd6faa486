pub mod Order
pub mod Items
pub mod Held
pub mod Listing
pub mod Room
