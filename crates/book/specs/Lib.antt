pub mod Setup
pub mod Books
pub mod Answers
pub mod Promises
