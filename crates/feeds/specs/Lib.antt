pub mod Faults
pub mod Steps
pub mod Makings
pub mod Lists
pub mod Sections
pub mod Sheets
pub mod SheetFeeds
pub mod WrittenSheets
