pub mod Rows
pub mod Sets
pub mod Stages
pub mod Parts
pub mod Diagram
pub mod Laying
pub mod Rulings
pub mod Stands
