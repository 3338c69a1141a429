pub mod Lifted
pub mod Chosen
pub mod Plain
pub mod Groupings
pub mod Lifts
pub mod Wraps
