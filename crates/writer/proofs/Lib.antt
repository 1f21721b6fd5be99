pub mod Overs
pub mod Turns
pub mod Plain
pub mod Forms
pub mod Back
