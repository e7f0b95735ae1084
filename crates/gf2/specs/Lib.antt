pub mod Polynomials
pub mod Responses
pub mod Feedbacks
pub mod Trial
pub mod Laws
pub mod Tables
