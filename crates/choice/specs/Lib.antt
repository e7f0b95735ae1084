pub mod Counting
pub mod Choosing
pub mod Exactness
pub mod Progress
pub mod Trials
