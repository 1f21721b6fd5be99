pub mod Answering
pub mod Parting
pub mod HeaderForms
pub mod Standing
