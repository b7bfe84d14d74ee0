pub mod Refusals
pub mod Local
pub mod Steps
pub mod Once
pub mod Functions
pub mod Laws
