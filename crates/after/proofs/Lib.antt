-- What is put into rooms one place after the other, and rooms that hold nothing.
pub mod Filling
pub mod Bare
