pub mod Crossing
pub mod Local
