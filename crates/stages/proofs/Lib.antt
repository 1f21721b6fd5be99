pub mod Rounds
pub mod LastStage
pub mod Fitting
pub mod Found
