pub mod Labelling
pub mod Watched
