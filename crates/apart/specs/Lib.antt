pub mod Apart
pub mod Pairs
pub mod Residues
pub mod Verdicts
