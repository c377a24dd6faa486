pub mod Frames
pub mod Saying
pub mod Replay
pub mod Race
pub mod Check
