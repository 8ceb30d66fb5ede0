pub mod Answers
pub mod Places
pub mod Hands
pub mod Seats
pub mod Moves
