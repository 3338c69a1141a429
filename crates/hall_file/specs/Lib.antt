pub mod Written
pub mod Rules
pub mod Reading
pub mod Views
