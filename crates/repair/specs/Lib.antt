pub mod Repaired
pub mod Hearing
pub mod Repairing
pub mod Laws
