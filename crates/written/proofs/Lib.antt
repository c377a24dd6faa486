-- Laws of what is written, and of what is read.
pub mod EntryBack
pub mod ReadBack
pub mod Tests
pub mod Good
pub mod Heard
pub mod Sound
pub mod Inside
pub mod SetupHeard
pub mod SetupSound
pub mod SetupInside
pub mod Longer
pub mod Settled
