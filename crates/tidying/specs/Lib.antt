pub mod Output
pub mod Stands
