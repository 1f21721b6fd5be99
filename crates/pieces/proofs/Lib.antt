pub mod Trying
pub mod Cuts
pub mod Covers
pub mod Yielding
pub mod Fields
pub mod Turning
