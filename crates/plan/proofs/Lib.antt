pub mod Pairing
pub mod Motions
pub mod Asking
pub mod Whole
