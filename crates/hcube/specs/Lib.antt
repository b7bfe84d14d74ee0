pub mod Answers
pub mod Fits
pub mod Decoded
