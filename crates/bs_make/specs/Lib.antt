pub mod Draws
pub mod Made
pub mod Summary
pub mod Tally
pub mod Script
pub mod Laws
