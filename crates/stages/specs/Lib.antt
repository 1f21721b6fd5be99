pub mod Lists
pub mod Stands
