pub mod Jobs
pub mod Counting
pub mod Needed
