pub mod Arguments
pub mod Spelling
pub mod Quotient
pub mod Messages
pub mod Answers
