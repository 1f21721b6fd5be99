pub mod Numbers
pub mod Keywords
pub mod Words
pub mod Cursor
pub mod Lines
pub mod Meaning
