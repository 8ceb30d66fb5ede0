pub mod Basics
pub mod May
pub mod Pairs
pub mod Counting
pub mod Links
pub mod Keeps
pub mod Agree
pub mod Runs
pub mod Lists
pub mod Places
mod Examples
pub mod KeyLaws
pub mod Moves
