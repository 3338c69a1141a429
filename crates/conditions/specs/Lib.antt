pub mod Trees
pub mod Postfix
pub mod Meaning
pub mod Keys
pub mod Machine
pub mod Promises
pub mod Theorems
