pub mod Overs
pub mod Lengths
