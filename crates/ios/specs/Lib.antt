pub mod Entries
pub mod Parsing
pub mod Shown
pub mod Reading
pub mod Faults
pub mod Folding
pub mod Grammar
pub mod Stands
