pub mod Interleaving
pub mod Answer
pub mod Queues
