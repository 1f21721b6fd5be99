pub mod Halves
pub mod HeaderLines
pub mod Answers
pub mod Output
pub mod Stands
