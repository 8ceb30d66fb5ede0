pub mod Orders
pub mod Walked
pub mod OrderTold
