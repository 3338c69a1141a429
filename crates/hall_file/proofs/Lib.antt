pub mod Masks
pub mod Forms
pub mod Laws
pub mod Heads
pub mod Steps
pub mod Checks
pub mod Looks
pub mod Compares
