pub mod Fixed
pub mod Perms
pub mod Laws
pub mod Meanings
