pub mod Firsts
pub mod Apart
pub mod Once
pub mod Kept
pub mod Stands
