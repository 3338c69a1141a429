pub mod Cuts
pub mod Kept
pub mod Parts
pub mod Fields
pub mod Passing
pub mod Ends
pub mod Writings
