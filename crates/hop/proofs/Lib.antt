pub mod Refusals
pub mod Local
pub mod Sets
pub mod Scanning
pub mod Joined
pub mod Gathered
pub mod Functions
