pub mod Befores
pub mod Calls
pub mod Inverse
pub mod Onto
pub mod Once
