pub mod Blocks
pub mod Pieces
pub mod Left
pub mod Asks
