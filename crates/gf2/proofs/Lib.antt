pub mod Sums
pub mod Horner
pub mod Times
pub mod Degrees
pub mod Remainders
pub mod Digits
pub mod Feedbacks
pub mod Shifts
pub mod Products
pub mod Decided
pub mod Trials
pub mod Ranges
pub mod Responses
pub mod Tables
pub mod Named
pub mod Steps
mod Examples
