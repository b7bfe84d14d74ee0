pub mod Hopping
pub mod Local
pub mod Helpers
