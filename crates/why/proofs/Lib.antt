pub mod Causing
pub mod Watching
pub mod Reasons
pub mod Refusal
pub mod Hops
pub mod Laws
pub mod Functions
