pub mod Hop
pub mod Local
pub mod Helpers
