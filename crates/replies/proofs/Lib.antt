-- What an event is answered.
pub mod Replying
