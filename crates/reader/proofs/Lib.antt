pub mod Told
pub mod Refused
pub mod Laws
pub mod Functions
