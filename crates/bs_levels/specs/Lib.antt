pub mod Words
pub mod Levels
pub mod Faults
pub mod TreeText
pub mod Laws
