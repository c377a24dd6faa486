pub mod Alike
pub mod Wanted
pub mod Next
