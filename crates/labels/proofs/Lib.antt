pub mod Loop
pub mod Refusal
pub mod Functions
pub mod Watched
