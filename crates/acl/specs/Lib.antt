pub mod Bits
pub mod Terms
pub mod Refusals
pub mod Headers
pub mod Shapes
pub mod Fits
