pub mod Fronts
pub mod Words
pub mod Writing
pub mod Shorts
