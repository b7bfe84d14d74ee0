pub mod Hit
pub mod Picking
pub mod Local
pub mod Toward
pub mod Progress
