pub mod Digits
pub mod Decimal
pub mod Found
pub mod Spans
pub mod Ends
pub mod Dots
pub mod Sorts
pub mod Addresses
