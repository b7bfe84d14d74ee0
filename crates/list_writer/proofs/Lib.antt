pub mod Digits
pub mod Runs
pub mod Passes
pub mod Functions
