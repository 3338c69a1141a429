pub mod Refusals
pub mod Numbers
