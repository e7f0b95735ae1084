pub mod Spelled
pub mod Argued
pub mod Divided
pub mod Explained
pub mod Texts
