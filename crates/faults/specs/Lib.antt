pub mod Meaning
pub mod Picking
pub mod Filling
pub mod Clocks
pub mod Rows
pub mod ClockLists
pub mod RowLists
