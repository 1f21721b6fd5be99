pub mod Canon
pub mod Pens
pub mod Writing
pub mod Back
