pub mod Pairs
pub mod Heads
pub mod Alarm
pub mod Laws
pub mod Functions
