pub mod Errors
pub mod ClockLists
pub mod RowLists
pub mod Lawful
pub mod Filling
pub mod Words
pub mod Parts
