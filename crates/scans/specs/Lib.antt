pub mod Scans
pub mod Hit
pub mod Picks
pub mod Progress
