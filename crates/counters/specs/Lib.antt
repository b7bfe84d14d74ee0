pub mod Tally
pub mod Helpers
