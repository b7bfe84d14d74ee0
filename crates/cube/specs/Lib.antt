pub mod Count
pub mod Cube
pub mod Tables
pub mod Over
pub mod Refusal
pub mod Refused
pub mod Laws
pub mod Allowed
