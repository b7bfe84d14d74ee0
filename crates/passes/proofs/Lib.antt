pub mod Crossing
pub mod Testing
pub mod Marking
pub mod Standing
pub mod Functions
pub mod Tests
pub mod TestsTied
