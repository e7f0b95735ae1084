pub mod Padded
pub mod Lengths
pub mod Blanks
