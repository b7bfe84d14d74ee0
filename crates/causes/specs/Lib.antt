pub mod Cause
pub mod Laws
