pub mod Turning
pub mod Calling
pub mod Deciding
pub mod Refusals
pub mod Local
pub mod Outcomes
pub mod Functions
