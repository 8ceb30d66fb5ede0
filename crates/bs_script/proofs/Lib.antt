pub mod Cuts
pub mod Pieces
pub mod Places
pub mod Sound
pub mod Moves
pub mod Prefix
pub mod Examples
