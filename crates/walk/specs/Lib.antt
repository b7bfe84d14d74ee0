pub mod Walk
pub mod Local
pub mod Laws
pub mod Once
pub mod Helpers
