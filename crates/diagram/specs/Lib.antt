pub mod Nodes
pub mod Props
pub mod Cubes
pub mod Stores
pub mod Layings
pub mod Walks
pub mod Collecting
pub mod Tables
