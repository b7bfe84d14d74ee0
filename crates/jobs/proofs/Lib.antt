pub mod Halves
pub mod Laws
pub mod Functions
